use Rattle.std.proofs.Common.{◌≡◌, ◌∷◌, [], ◌++◌, true, false, refl, ap, ◌∙◌}
use Rattle.ecam_spec.specs.declared.kinds.Event.TheVariants.{Fail}
use Rattle.ecam_spec.specs.History.{Flags, flags_with, flags_after}
use Rattle.book_model.specs.Sealed.{the_book}
use Rattle.fwc_pair.specs.PairState.{PairFits}
use Rattle.worked_replays.proofs.pairs.forgets.Goals as goal

-- computer 2 is down after its failure
down : flags_after ([] ++ Fail 2 ∷ []) ≡ record { one = true; two = false }
unfolding flags_after flags_with
down = refl

pub play-requires-2 : goal.play-requires-2
unfolding PairFits
play-requires-2 g c =
    let b = the_book c.args.book.now in
    let stands = c.event.ensures.stands [] c.requires.stands in
    let two : c.event.new.self.two_up ≡ false = ap (λ (f : Flags). f.two) (stands.flags ∙ down) in
    record {
      one = c.event.ensures.fits.one;
      two = c.copy_from.ensures.fits b c.event.ensures.fits.two c.play.ensures.one;
      together = λ e f. absurd (let w : ⊥ = cc in w);
      still = c.event.ensures.fits.still;
    }

pub copy_from-requires : goal.copy_from-requires
unfolding PairFits
copy_from-requires g c = (the_book c.args.book.now, c.event.ensures.fits.two, c.play.ensures.one)
