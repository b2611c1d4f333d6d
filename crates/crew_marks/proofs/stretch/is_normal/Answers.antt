use Rattle.std.proofs.Common.{◌≡◌, ℕ, zero, suc, ◌-◌, false, leb, refl, sym, ◌∙◌, ap}
use Rattle.std.specs.Option.{option_map_or}
use Rattle.ecam_spec.specs.Past.{previous, last_since, previously}
use Rattle.ecam_spec.specs.Crew.{Cockpit, shows_nothing, normal}
use Rattle.crew_marks.specs.CrewMarks.{stands_normal}
use Rattle.crew_marks.proofs.Stretches.{normal-press}
use Rattle.crew_marks.proofs.stretch.is_normal.Goals as goal

normal-told : (c : Cockpit) (k : ℕ) → previous (normal c) k ≡ option_map_or (λ j. leb (k - j) 30) (previously (last_since c.rcl (shows_nothing c)) k) false
unfolding previous
normal-told c zero = refl
normal-told c (suc k) = normal-press c k

pub returns-in-Some-clause-answer : goal.returns-in-Some-clause-answer
returns-in-Some-clause-answer c = λ cockpit k moments press.
    ap (λ n. leb n 30) (c.saturating_sub.ensures ∙ ap (λ n. n - c.in-Some.press) moments)
    ∙ sym (normal-told cockpit k ∙ ap (λ o. option_map_or (λ j. leb (k - j) 30) o false) (sym press ∙ c.in-Some.is))

pub returns-in-None-clause-answer : goal.returns-in-None-clause-answer
returns-in-None-clause-answer c = λ cockpit k moments press.
    sym (normal-told cockpit k ∙ ap (λ o. option_map_or (λ j. leb (k - j) 30) o false) (sym press ∙ c.in-None.is))

pub returns-in-Some-clause-value : goal.returns-in-Some-clause-value
returns-in-Some-clause-value c = ap (λ n. leb n 30) c.saturating_sub.ensures ∙ sym (ap (λ o. stands_normal o c.args.moments) c.in-Some.is)
