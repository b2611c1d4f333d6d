use Rattle.std.proofs.Common.{◌≡◌, false, sym, subst}
use Rattle.ecam_spec.specs.KeepsLimits.{IsSoundTerm}
use Rattle.term_tree.specs.declared.cond.Cond.{Cond}
use Rattle.term_tree.specs.View.{tree_of}
use Rattle.book_model.specs.declared.draft.Draft.{Draft}
use Rattle.book_checker.proofs.PhasesAlone.{constant_sound, sound_alone}
use Rattle.book_checker.proofs.tests.phases_alone.Goals as goal

sound_as : (made given : Cond) → made ≡ given → IsSoundTerm 0 0 (tree_of given) → IsSoundTerm 0 0 (tree_of made)
sound_as made given same sound = subst (λ c. IsSoundTerm 0 0 (tree_of c)) (sym same) sound

pub returns : goal.returns
returns c =
    let d : Draft = record {
      systems = c.new.result;
      pages = c.new-2.result;
      params = c.new-3.result;
      terms = c.new-4.result;
      phase = record {
        gnd = c.term.result;
        run = c.term-2.result;
        tp = c.term-3.result;
        fast = c.term-4.result;
        high = c.term-5.result;
        low = c.term-6.result;
      };
      alerts = c.new-5.result;
      memos = c.new-6.result;
    } in
    sound_alone d c.new.ensures.items c.new-2.ensures.items c.new-3.ensures.items c.new-4.ensures.items c.new-5.ensures.items c.new-6.ensures.items
    (record {
      gnd = sound_as _ _ c.term.ensures c.requires;
      run = sound_as _ _ c.term-2.ensures (constant_sound false);
      tp = sound_as _ _ c.term-3.ensures (constant_sound false);
      fast = sound_as _ _ c.term-4.ensures (constant_sound false);
      high = sound_as _ _ c.term-5.ensures (constant_sound false);
      low = sound_as _ _ c.term-6.ensures (constant_sound false);
    })
