use Rattle.std.proofs.Common.{◌≡◌, ◌<◌, length, get_or, true, ap, sym, ◌+◌, ◌∙◌, arith}
use Rattle.std.proofs.lemmas.List.{length-set}
use Rattle.ecam_spec.specs.Places.{below}
use Rattle.book_model.specs.Sealed.{the_book}
use Rattle.book_model.specs.Told.{flagged}
use Rattle.book_model.specs.declared.draft.Alert.{Alert}
use Rattle.book_model.proofs.BookLists.{many-alerts}
use Rattle.book_model.proofs.BookReads.{alert-read}
use Rattle.book_model.proofs.BookLimits.{sizes, alert-sizes}
use Rattle.warning_display.specs.RightRows.{is_marked}
use Rattle.warning_display.proofs.Marks.{marked-on, marked-same}
use Rattle.warning_display.proofs.right.mark_systems.Goals as goal

pub loop-next-init : goal.loop-next-init
unfolding below
loop-next-init c = record {
  most = c.next_set-next.ensures.end;
  set = c.next_set-next.ensures.set;
  long = c.requires.marks;
  marked = λ s h. c.requires.clear s ∙ marked-same (the_book c.args.book.now) (flagged c.args.starred.now) (below 0) (below c.next_set-next.result) (sym c.next_set-next.ensures.none) s;
}

pub bounds-marks-alerts : goal.bounds-marks-alerts
bounds-marks-alerts c =
    let d = c.args.book.now in
    let size = alert-sizes d c.alerts-alerts.ensures.sealed c.alerts-alerts.result.now c.loop-next.next c.index-alerts-next.result c.alerts-alerts.ensures.value c.loop-next-test.true c.index-alerts-next.is in
    omega (arith, size.system, (sizes d c.alerts-alerts.ensures.sealed).systems, ap (λ (x : Alert). x.system) c.index-alerts-next.is, c.loop-next.invariant.long)

pub loop-next-preserved : goal.loop-next-preserved
loop-next-preserved c =
    let d = c.args.book.now in
    let b = the_book d in
    let starred = flagged c.args.starred.now in
    let alerts = c.alerts-alerts.result.now in
    let system = (get_or alerts c.loop-next.next c.index-alerts-next.result).system in
    let size = alert-sizes d c.alerts-alerts.ensures.sealed alerts c.loop-next.next c.index-alerts-next.result c.alerts-alerts.ensures.value c.loop-next-test.true c.index-alerts-next.is in
    let read = alert-read d alerts c.loop-next.next c.index-alerts-next.result c.alerts-alerts.ensures.value c.loop-next-test.true c.index-alerts-next.is in
    let within : system < length c.loop-next.marks =
    omega (arith, size.system, (sizes d c.alerts-alerts.ensures.sealed).systems, ap (λ (x : Alert). x.system) c.index-alerts-next.is, c.loop-next.invariant.long) in
    record {
      most = c.next_set-next-in-loop-next.ensures.end;
      set = c.next_set-next-in-loop-next.ensures.set;
      long = length-set c.loop-next.marks system true ∙ c.loop-next.invariant.long;
      marked = λ s h.
          marked-on b starred c.loop-next.next system c.loop-next.marks (ap (λ a. a.system) read ∙ ap (λ (x : Alert). x.system) c.index-alerts-next.is)
          (c.loop-next.invariant.set c.loop-next-test.true) within c.loop-next.invariant.marked s h
          ∙ marked-same b starred (below (c.loop-next.next + 1)) (below c.next_set-next-in-loop-next.result) (sym c.next_set-next-in-loop-next.ensures.none) s;
    }

pub returns-clause-marked : goal.returns-clause-marked
returns-clause-marked c = λ s h.
    let all : c.loop-next.next ≡ length (the_book c.args.book.now).alerts =
    omega (arith, many-alerts c.args.book.now, ap length c.alerts-alerts.ensures.value, c.loop-next-test.false, c.loop-next.invariant.most) in
    c.loop-next.invariant.marked s h ∙ ap (λ n. is_marked (the_book c.args.book.now) (flagged c.args.starred.now) (below n) s) all
