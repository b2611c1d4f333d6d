use Rattle.std.proofs.Common.{◌≡◌, suc, ◌+◌, ◌≤◌, [], ◌++◌, ◌∷◌, length, cond, refl, sym, ◌∙◌, ap, subst, arith, append-nil}
use Rattle.ecam_io.proofs.Calls.{Appended-none}
use Rattle.ecam_spec.specs.declared.kinds.Event.TheVariants.{Tick}
use Rattle.ecam_spec.specs.History.{era}
use Rattle.ecam_spec.specs.Replay.{tick_count}
use Rattle.ecam_spec.specs.Situation.{alert_at, phase_in, condition_in, up_in}
use Rattle.book_model.specs.Sealed.{the_book, IsSealed}
use Rattle.book_model.specs.declared.draft.Draft.{Draft}
use Rattle.book_model.proofs.BookLists.{many-alerts}
use Rattle.book_model.proofs.BookLimits.{sizes}
use Rattle.alert_truth.specs.Alerts.{Tells}
use Rattle.view_spec.specs.FlightReport.{begins, course, report_text}
use Rattle.flight_report.specs.Kept.{last_text, Watches, WatchStands, Comes}
use Rattle.flight_report.proofs.Written.{on-err}
use Rattle.flight_report.proofs.Ticking.{alive, dead, has-room, further-last, comes-now, phase-now, ups-now, text-further, text-dead, stands-live, stands-dead}
use Rattle.flight_report.proofs.report.Report.tick.Goals as goal

-- a book has at most 2048 alerts
few-alerts : (d : Draft) → IsSealed d → length (the_book d).alerts ≤ 2048
few-alerts d sealed = omega (arith, many-alerts d, (sizes d sealed).alerts)

pub returns-in_default-clause-stands : goal.returns-in_default-clause-stands
returns-in_default-clause-stands g c = λ h stands pair.
    let b = the_book c.args.book.now in
    stands-dead b h c.args.self.now stands (dead b h c.args.pair.now pair (c.in_default.ensures.none.0 refl)) _ refl refl refl

pub returns-in_default-clause-adds : goal.returns-in_default-clause-adds
returns-in_default-clause-adds g c = λ h stands pair.
    let b = the_book c.args.book.now in
    record {
      more = [];
      joined = text-dead b h c.args.self.now stands (dead b h c.args.pair.now pair (c.in_default.ensures.none.0 refl)) ∙ sym (append-nil (report_text b h));
      written = Appended-none g.O.Sink.agrees c.args.out.now;
    }

pub turn-requires : goal.turn-requires
turn-requires g c =
    let d = c.args.book.now in
    has-room (the_book d) c.requires.0 c.args.self.now c.requires.1.0 c.requires.1.1
    (few-alerts d c.sealed.ensures)

pub returns-in_err-turn-clause-part : goal.returns-in_err-turn-clause-part
returns-in_err-turn-clause-part g c = λ h stands pair.
    let b = the_book c.args.book.now in
    let lane = c.in-Some.ensures.stands b (h ++ Tick ∷ []) pair in
    let comes = comes-now b h c.args.self.now stands c.in-Some.lane.now lane c.up-up.result.now (λ m k truths. c.up-up.ensures.tells b (condition_in b m) (phase_in b m) k truths)
    (alive b h c.args.pair.now pair c.in-Some.ensures.none.1) in
    on-err c.from_residual.result
    (record {
      more = cond (begins (course b (h ++ Tick ∷ [])) (tick_count h)) (last_text (λ a. (alert_at b a).name) c.args.self.now.flight) [];
      joined = text-further b h c.args.self.now stands;
      written = c.in_err-turn.ensures.prefix (course b (h ++ Tick ∷ [])) (tick_count h) c.up-up.result.now comes;
    })

pub note-requires-clause-up : goal.note-requires-clause-up
note-requires-clause-up g c =
    let d = c.args.book.now in
    let lane = c.in-Some.ensures.stands (the_book d) (c.requires.0 ++ Tick ∷ []) c.requires.1.2 in
    ap length c.up-up.ensures.value ∙ lane.fits.truths.stars.up ∙ many-alerts d

pub returns-clause-stands : goal.returns-clause-stands
returns-clause-stands g c = λ h stands pair.
    let d = c.args.book.now in
    let b = the_book d in
    let k = length (era h).moments in
    let up = c.up-up.result.now in
    let lane = c.in-Some.ensures.stands b (h ++ Tick ∷ []) pair in
    let many : length up ≡ length b.alerts = ap length c.up-up.ensures.value ∙ lane.fits.truths.stars.up in
    let comes = comes-now b h c.args.self.now stands c.in-Some.lane.now lane up (λ m k truths. c.up-up.ensures.tells b (condition_in b m) (phase_in b m) k truths)
    (alive b h c.args.pair.now pair c.in-Some.ensures.none.1) in
    let turned = c.in_ok-turn.ensures.flight (course b (h ++ Tick ∷ [])) (tick_count h) up stands.ticks comes (further-last b h c.args.self.now stands) in
    stands-live b h c.args.self.now stands _
    (ap (λ n. n + 1) (c.note.ensures.ticks ∙ c.in_ok-turn.ensures.ticks))
    (c.note.ensures.flight (course b (h ++ Tick ∷ [])) (tick_count h) (c.in_ok-turn.ensures.ticks ∙ stands.ticks)
    (subst (Comes b (course b (h ++ Tick ∷ [])) (tick_count h) c.in-Some.lane.now.phase.number up) (sym c.in_ok-turn.ensures.watch) comes) turned)
    (subst (λ n. Watches n c.take.new.self) many c.take.ensures.fits)
    (λ m continues.
    subst (λ n. WatchStands n (up_in b m) (phase_in b m) (suc k) c.take.new.self) many
    (c.take.ensures.stands (up_in b m) (phase_in b m) k (phase-now b h c.in-Some.lane.now lane m continues)
    (subst (λ n. Tells n up (up_in b m) (suc k)) (sym many)
    (ups-now b h c.in-Some.lane.now lane m continues up (λ j truths. c.up-up.ensures.tells b (condition_in b m) (phase_in b m) j truths)))))

pub returns-clause-adds : goal.returns-clause-adds
returns-clause-adds g c = λ h stands pair.
    let b = the_book c.args.book.now in
    let lane = c.in-Some.ensures.stands b (h ++ Tick ∷ []) pair in
    let comes = comes-now b h c.args.self.now stands c.in-Some.lane.now lane c.up-up.result.now (λ m k truths. c.up-up.ensures.tells b (condition_in b m) (phase_in b m) k truths)
    (alive b h c.args.pair.now pair c.in-Some.ensures.none.1) in
    record {
      more = cond (begins (course b (h ++ Tick ∷ [])) (tick_count h)) (last_text (λ a. (alert_at b a).name) c.args.self.now.flight) [];
      joined = text-further b h c.args.self.now stands;
      written = c.in_ok-turn.ensures.all (course b (h ++ Tick ∷ [])) (tick_count h) c.up-up.result.now comes;
    }
