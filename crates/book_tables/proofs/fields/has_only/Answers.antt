use Rattle.std.proofs.Common.{sym, ◌∙◌, rules, tests, String, Global, string_bytes}
use Rattle.std.specs.List.{list_any}
use Rattle.std.specs.Map.{keys_of}
use Rattle.std.proofs.lemmas.Iterator.Consumers.{YieldsList-from_rest}
use Rattle.std.proofs.lemmas.Iterator.Search.{all_from_yields_List}
use Rattle.ecam_spec.specs.Bytes.{same_text}
use Rattle.book_tables.specs.Reading.{texts_of}
use Rattle.book_tables.proofs.Items.{all_keys}
use Rattle.book_tables.proofs.fields.has_only.Goals as goal

pub returns : goal.returns
returns c =
    let test = λ (k : String Global). list_any (same_text (string_bytes k)) (texts_of c.args.known.now) in
    let all = all_from_yields_List test _ _ c.all.result c.all.ensures.ran (YieldsList-from_rest (keys_of c.args.table.now.entries) c.keys.ensures.rest) (λ x b q k. search (rules, tests)) in
    all ∙ sym (all_keys (λ key. list_any (same_text key) (texts_of c.args.known.now)) c.args.table.now.entries)
