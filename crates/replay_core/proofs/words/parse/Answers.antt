use Rattle.std.proofs.Common.{arith, sym, string_bytes}
use Rattle.std.specs.declared.alloc.Global.{Global}
use Rattle.replay_core.proofs.Forms.{two_words, three_words, four_words, five_words, other_words}
use Rattle.replay_core.proofs.words.parse.Goals as goal

pub returns-then-count-eq2-clause-asks : goal.returns-then-count-eq2-clause-asks
returns-then-count-eq2-clause-asks c =
    let by_count = two_words (string_bytes {Z = Global}) c.args.words.now
    c.index-words-0.result c.index-words-1.result
    (omega arith) c.index-words-0.is c.index-words-1.is in
    let form = c.as_str.ensures.value in
    let book = c.as_str-then-count-eq2.ensures.value in
    let asked = c.parse_two.ensures.asks in
    cc

pub returns-then-count-eq3-clause-asks : goal.returns-then-count-eq3-clause-asks
returns-then-count-eq3-clause-asks c =
    let by_count = three_words (string_bytes {Z = Global}) c.args.words.now
    c.index-words-0-then-count-eq3.result c.index-words-1-then-count-eq3.result c.index-words-2.result
    (omega arith) c.index-words-0-then-count-eq3.is c.index-words-1-then-count-eq3.is c.index-words-2.is in
    let form = c.as_str-then-count-eq3.ensures.value in
    let book = c.as_str-then-count-eq3-2.ensures.value in
    let record' = c.as_str-then-count-eq3-3.ensures.value in
    let asked = c.parse_three.ensures.asks in
    cc

pub returns-then-count-eq4-clause-asks : goal.returns-then-count-eq4-clause-asks
returns-then-count-eq4-clause-asks c =
    let by_count = four_words (string_bytes {Z = Global}) c.args.words.now
    c.index-words-0-then-count-eq4.result c.index-words-1-then-count-eq4.result c.index-words-2-then-count-eq4.result c.index-words-3.result
    (omega arith) c.index-words-0-then-count-eq4.is c.index-words-1-then-count-eq4.is c.index-words-2-then-count-eq4.is c.index-words-3.is in
    let form = c.as_str-then-count-eq4.ensures.value in
    let book = c.as_str-then-count-eq4-2.ensures.value in
    let seed = c.as_str-then-count-eq4-3.ensures.value in
    let moments = c.as_str-then-count-eq4-4.ensures.value in
    let asked = c.parse_four.ensures.asks in
    cc

pub returns-then-count-eq5-clause-asks : goal.returns-then-count-eq5-clause-asks
returns-then-count-eq5-clause-asks c =
    let by_count = five_words (string_bytes {Z = Global}) c.args.words.now
    c.index-words-0-then-count-eq5.result c.index-words-1-then-count-eq5.result c.index-words-2-then-count-eq5.result
    c.index-words-3-then-count-eq5.result c.index-words-4.result (omega arith)
    c.index-words-0-then-count-eq5.is c.index-words-1-then-count-eq5.is c.index-words-2-then-count-eq5.is c.index-words-3-then-count-eq5.is c.index-words-4.is in
    let form = c.as_str-then-count-eq5.ensures.value in
    let book = c.as_str-then-count-eq5-2.ensures.value in
    let record' = c.as_str-then-count-eq5-3.ensures.value in
    let option = c.as_str-then-count-eq5-4.ensures.value in
    let limit = c.as_str-then-count-eq5-5.ensures.value in
    let asked = c.parse_five.ensures.asks in
    cc

pub returns-clause-asks : goal.returns-clause-asks
returns-clause-asks c = sym (other_words (string_bytes {Z = Global}) c.args.words.now (omega arith) (omega arith) (omega arith) (omega arith))
