use Rattle.std.proofs.Common.{◌+◌, ◌<◌, ◌≤◌, false, length, slice_get, refl, sym, ap, subst, ◌∙◌, arith}
use Rattle.book_model.specs.View.{placed_of}
use Rattle.book_model.specs.Sealed.{the_book}
use Rattle.book_model.specs.Conditions.{places}
use Rattle.book_model.proofs.BookLists.{many-memos, many-alerts}
use Rattle.book_model.proofs.BookLimits.{sizes}
use Rattle.book_model.proofs.BookLines.{few-lines-in-all}
use Rattle.book_model.proofs.ConditionPlaces.{memo-place-at}
use Rattle.book_model.proofs.ConditionNames.{memo-names}
use Rattle.wakes.specs.Marks.{is_marked}
use Rattle.fwc_lane.specs.Conditions.{StepsTerm}
use Rattle.fwc_lane.proofs.Showing.{shows-list}
use Rattle.fwc_lane.proofs.FlagSteps.{set-length, left-false, right-false, with-item}
use Rattle.fwc_lane.proofs.MemoSteps.{memo-on, memos-begin, memos-skip, memos-end, memos-told}
use Rattle.fwc_lane.proofs.memos.step_memos.Goals as goal

pub loop-memo-init : goal.loop-memo-init
loop-memo-init c = record {
  most = omega arith;
  fits = c.requires.fits;
  flags = refl;
  stands = λ active same m visits shows were half. memos-begin c.args.book.now m c.args.now visits _ _ were half;
  kept = λ e. refl;
}

pub overflow_add-first : goal.overflow_add-first
overflow_add-first c =
    let d = c.args.book.now in
    let sealed = c.sealed.ensures in
    omega (arith, c.in-Some.ensures.1, (sizes d sealed).memos, (sizes d sealed).alerts, c.first_memo-first.ensures, many-alerts d, few-lines-in-all d sealed)

pub step_stirred-holds-requires-clause-place : goal.step_stirred-holds-requires-clause-place
step_stirred-holds-requires-clause-place c =
    let d = c.args.book.now in
    let i = c.in-Some.memo in
    with-item d.memos.items i c.in-Some.ensures.1
    (λ x here. (
      the_book d,
      placed_of x.when,
      c.loop-memo.invariant.fits,
      ap (λ n. slice_get (places (the_book d)) (n + i)) c.first_memo-first.ensures ∙ memo-place-at d c.sealed.ensures d.memos.items i x refl c.in-Some.ensures.1 here,
      rw (c.requires.values, c.requires.active) (memo-names d c.sealed.ensures d.memos.items i x refl c.in-Some.ensures.1 here),
    ))

pub step_stirred-holds-requires-clause-stirred : goal.step_stirred-holds-requires-clause-stirred
step_stirred-holds-requires-clause-stirred c =
    ap (λ n. is_marked c.loop-memo.terms.stirred (n + c.in-Some.memo)) c.first_memo-first.ensures ∙ c.in-Some.ensures.3

pub set_flag-other-requires : goal.set_flag-other-requires
set_flag-other-requires c = omega (arith, c.in-Some.ensures.1, c.loop-memo.invariant.flags, c.requires.flags, many-memos c.args.book.now)

pub loop-memo-preserved : goal.loop-memo-preserved
loop-memo-preserved c =
    let d = c.args.book.now in
    let i = c.in-Some.memo in
    let lt = c.in-Some.ensures.1 in
    let room : i < length c.loop-memo.flags.items = omega (arith, lt, c.loop-memo.invariant.flags, c.requires.flags, many-memos d) in
    let is = c.set_flag-other.ensures.items in
    let env = record c.args.env.now { phase = c.args.phase; active = c.args.active } in
    record {
      most = omega (arith, lt);
      fits = c.step_stirred-holds.ensures.fits (the_book d) c.loop-memo.invariant.fits;
      flags = set-length _ _ _ _ false is ∙ c.loop-memo.invariant.flags;
      stands = λ active same m visits shows were half.
          with-item d.memos.items i lt
          (λ x here.
          let place = memo-place-at d c.sealed.ensures d.memos.items i x refl lt here in
          let steps = subst (λ n. StepsTerm (places (the_book d)) env c.args.now (n + i) (placed_of x.when) c.loop-memo.terms c.step_stirred-holds.new.terms c.step_stirred-holds.result) c.first_memo-first.ensures
          (c.step_stirred-holds.ensures.steps (the_book d) (placed_of x.when) c.loop-memo.invariant.fits (ap (λ n. slice_get (places (the_book d)) (n + i)) c.first_memo-first.ensures ∙ place)
          (rw (c.requires.values, c.requires.active) (memo-names d c.sealed.ensures d.memos.items i x refl lt here))) in
          memo-on d c.sealed.ensures d.memos.items i x refl lt here m c.args.now env (shows-list c.args.env.now c.args.phase _ c.args.now active c.args.active same shows) visits
          c.loop-memo.terms c.step_stirred-holds.new.terms c.step_stirred-holds.result
          steps c.loop-memo.flags.items c.set_flag-other.new.flags.items is room
          (memos-skip d c.sealed.ensures m c.args.now visits c.loop-memo.terms c.loop-memo.flags.items c.requires.now c.loop-memo.next i c.in-Some.ensures.0 (omega (arith, lt)) c.in-Some.ensures.2
          (c.loop-memo.invariant.stands active same m visits shows were half)));
      kept = λ off.
          let none = sym c.is_either-turned.ensures ∙ off in
          c.set_flag-other.ensures.kept (right-false _ _ none) ∙ c.loop-memo.invariant.kept (left-false _ _ none);
    }

pub returns-clause-told : goal.returns-clause-told
returns-clause-told c = λ m visits shows were half.
    let d = c.args.book.now in
    let end : length d.memos.items ≤ length d.memos.items = omega arith in
    memos-told d c.sealed.ensures m c.args.now (length d.memos.items) visits c.loop-memo.terms c.loop-memo.flags.items refl
    (memos-skip d c.sealed.ensures m c.args.now visits c.loop-memo.terms c.loop-memo.flags.items c.requires.now c.loop-memo.next (length d.memos.items) c.loop-memo.invariant.most end c.in_default.ensures
    (c.loop-memo.invariant.stands c.args.active refl m visits shows were half))

pub returns-clause-stands : goal.returns-clause-stands
returns-clause-stands c = λ m visits shows were half.
    let d = c.args.book.now in
    let end : length d.memos.items ≤ length d.memos.items = omega arith in
    memos-end d c.sealed.ensures m c.args.now (length d.memos.items) visits c.loop-memo.terms c.loop-memo.flags.items refl
    (memos-skip d c.sealed.ensures m c.args.now visits c.loop-memo.terms c.loop-memo.flags.items c.requires.now c.loop-memo.next (length d.memos.items) c.loop-memo.invariant.most end c.in_default.ensures
    (c.loop-memo.invariant.stands c.args.active refl m visits shows were half))
