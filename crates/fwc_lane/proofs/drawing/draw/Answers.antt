use Rattle.std.proofs.Common.{suc, sym, subst}
use Rattle.ecam_kinds.specs.Shown.{picture_of}
use Rattle.book_model.specs.Sealed.{the_book}
use Rattle.zone_rows.specs.Tracked.{tracked}
use Rattle.fwc_lane.specs.Drawn.{IsDrawn}
use Rattle.fwc_lane.proofs.ZonePictures.{draws-picture, draws-changed}
use Rattle.fwc_lane.proofs.drawing.draw.Goals as goal

pub returns-clause-drawn : goal.returns-clause-drawn
returns-clause-drawn c = λ m k scene turned was.
    subst (IsDrawn (the_book c.args.book.now) m (suc k) (picture_of c.draw_lamps.new.picture)) (sym c.draw_flags.ensures.counts)
    (draws-picture (the_book c.args.book.now) m k c.args.counts.now (record { left = c.draw_left-left.result; right = c.draw_right-right.result; status = c.has_status-status.result }) (tracked c.args.picture.now.rows c.forget.new.changed)
    (tracked c.draw_left-left.new.picture.rows c.draw_left-left.new.changed)
    (tracked c.draw_right-right.new.picture.rows c.draw_right-right.new.changed)
    (tracked c.draw_flags.new.picture.rows c.draw_flags.new.changed)
    (tracked c.draw_display.new.picture.rows c.draw_display.new.changed)
    (tracked c.draw_lamps.new.picture.rows c.draw_lamps.new.changed)
    (record {
      whole_s = c.forget.ensures.whole;
      whole_t = c.draw_left-left.ensures.whole;
      whole_u = c.draw_right-right.ensures.whole;
      whole_v = c.draw_flags.ensures.whole;
      whole_w = c.draw_display.ensures.whole;
      left = c.draw_left-left.ensures.rows m k scene turned;
      right = c.draw_right-right.ensures.rows m k scene turned;
      status = c.has_status-status.ensures m k scene turned;
      flags = c.draw_flags.ensures.rows (the_book c.args.book.now) m k turned.first;
      display = c.draw_display.ensures.rows m k scene turned;
      lamps = c.draw_lamps.ensures.rows (the_book c.args.book.now) m k turned.first scene;
    })
    was)

pub returns-clause-changed : goal.returns-clause-changed
returns-clause-changed c = λ m k scene turned was.
    draws-changed (the_book c.args.book.now) m k c.args.counts.now (record { left = c.draw_left-left.result; right = c.draw_right-right.result; status = c.has_status-status.result })
    (tracked c.args.picture.now.rows c.forget.new.changed)
    (tracked c.draw_left-left.new.picture.rows c.draw_left-left.new.changed)
    (tracked c.draw_right-right.new.picture.rows c.draw_right-right.new.changed)
    (tracked c.draw_flags.new.picture.rows c.draw_flags.new.changed)
    (tracked c.draw_display.new.picture.rows c.draw_display.new.changed)
    (tracked c.draw_lamps.new.picture.rows c.draw_lamps.new.changed)
    (record {
      whole_s = c.forget.ensures.whole;
      whole_t = c.draw_left-left.ensures.whole;
      whole_u = c.draw_right-right.ensures.whole;
      whole_v = c.draw_flags.ensures.whole;
      whole_w = c.draw_display.ensures.whole;
      left = c.draw_left-left.ensures.rows m k scene turned;
      right = c.draw_right-right.ensures.rows m k scene turned;
      status = c.has_status-status.ensures m k scene turned;
      flags = c.draw_flags.ensures.rows (the_book c.args.book.now) m k turned.first;
      display = c.draw_display.ensures.rows m k scene turned;
      lamps = c.draw_lamps.ensures.rows (the_book c.args.book.now) m k turned.first scene;
    })
    was c.forget.ensures.none
