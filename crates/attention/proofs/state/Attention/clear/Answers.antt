use Rattle.std.proofs.Common.{length, refl, sym, ap, ◌∙◌, rules}
use Rattle.std.proofs.lemmas.List.{length-replicate}
use Rattle.attention.specs.declared.calls.Calls.{Calls}
use Rattle.attention.specs.Calling.{rings_in}
use Rattle.attention.proofs.Ringing.{rings-none}
use Rattle.attention.proofs.StandsOn.{boxed-is, none-open, stands-first}
use Rattle.attention.proofs.state.Attention.clear.Goals as goal

pub returns-clause-fits : goal.returns-clause-fits
returns-clause-fits c = λ b fits.
    let n = length c.as_mut_slice.result.now in
    let all =
    boxed-is c.args.self.now.watches c.fill.new.self (c.fill.ensures.len ∙ ap length c.as_mut_slice.ensures.value) ∙ c.fill.ensures.after (λ y same. search rules) in
    record {
      watches = ap length all ∙ length-replicate n c.new.result ∙ ap length c.as_mut_slice.ensures.value ∙ fits.watches;
      open_room = c.clear.ensures.room ∙ fits.open_room;
      looked_room = fits.looked_room;
      callers = c.clear-2.ensures.room _ fits.callers;
      still_open = none-open n c.new.result _ c.clear.new.self all c.new.ensures.shut;
      latest = λ j.
          ap (λ (x : Calls). rings_in j x.chime) c.none-self.ensures
          ∙ sym (rings-none c.clear-2.new.self.chimes _ j _ (λ i from h. c.clear-2.ensures.none i));
    }

pub returns-clause-stands : goal.returns-clause-stands
returns-clause-stands c = λ b a fits.
    stands-first b a _ (length c.as_mut_slice.result.now) c.new.result (returns-clause-fits c b fits) refl c.none-self.ensures
    (ap length c.as_mut_slice.ensures.value ∙ fits.watches)
    (boxed-is c.args.self.now.watches c.fill.new.self (c.fill.ensures.len ∙ ap length c.as_mut_slice.ensures.value) ∙ c.fill.ensures.after (λ y same. search rules))
    (λ i. c.new.ensures.stands a i)
