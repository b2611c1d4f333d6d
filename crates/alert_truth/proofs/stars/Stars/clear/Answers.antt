use Rattle.std.proofs.Common.{rules, ◌≡◌, false, None, length, replicate, vec_len, refl, ap, ◌∙◌, arith}
use Rattle.alert_truth.specs.declared.stars.Stars.{Stars}
use Rattle.alert_truth.proofs.Starring.{blank-stands, blank-away}
use Rattle.alert_truth.proofs.stars.Stars.clear.Goals as goal

pub returns-clause-stands : goal.returns-clause-stands
returns-clause-stands c = λ b active fits.
    let new : Stars = record { listers = c.args.self.now.listers; asked = c.args.self.now.asked; primaries = c.fill.new.self; starred = c.fill-2.new.self; up = c.fill-3.new.self; turned = false } in
    let count = length b.alerts in
    let primary : new.primaries.items ≡ replicate (vec_len c.args.self.now.primaries) None = c.fill.ensures.items (λ y same. search rules) in
    let starred : new.starred.items ≡ replicate (vec_len c.args.self.now.starred) false = c.fill-2.ensures.items (λ y same. search rules) in
    let up : new.up.items ≡ replicate (vec_len c.args.self.now.up) false = c.fill-3.ensures.items (λ y same. search rules) in
    let one : vec_len c.args.self.now.primaries ≡ count = omega (arith, fits.primaries, c.args.self.now.primaries.ok.0) in
    let two : vec_len c.args.self.now.starred ≡ count = omega (arith, fits.starred, c.args.self.now.starred.ok.0) in
    let three : vec_len c.args.self.now.up ≡ count = omega (arith, fits.up, c.args.self.now.up.ok.0) in
    blank-stands b active new count refl (primary ∙ ap (λ n. replicate n None) one) (starred ∙ ap (λ n. replicate n false) two) (up ∙ ap (λ n. replicate n false) three)

pub returns-clause-away : goal.returns-clause-away
returns-clause-away c = λ b fits.
    let new : Stars = record { listers = c.args.self.now.listers; asked = c.args.self.now.asked; primaries = c.fill.new.self; starred = c.fill-2.new.self; up = c.fill-3.new.self; turned = false } in
    let count = length b.alerts in
    let primary : new.primaries.items ≡ replicate (vec_len c.args.self.now.primaries) None = c.fill.ensures.items (λ y same. search rules) in
    let starred : new.starred.items ≡ replicate (vec_len c.args.self.now.starred) false = c.fill-2.ensures.items (λ y same. search rules) in
    let up : new.up.items ≡ replicate (vec_len c.args.self.now.up) false = c.fill-3.ensures.items (λ y same. search rules) in
    let one : vec_len c.args.self.now.primaries ≡ count = omega (arith, fits.primaries, c.args.self.now.primaries.ok.0) in
    let two : vec_len c.args.self.now.starred ≡ count = omega (arith, fits.starred, c.args.self.now.starred.ok.0) in
    let three : vec_len c.args.self.now.up ≡ count = omega (arith, fits.up, c.args.self.now.up.ok.0) in
    blank-away new count (primary ∙ ap (λ n. replicate n None) one) (starred ∙ ap (λ n. replicate n false) two) (up ∙ ap (λ n. replicate n false) three)
