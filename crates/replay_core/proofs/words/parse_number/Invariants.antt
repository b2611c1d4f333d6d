use Rattle.std.proofs.Common.{◌≡◌, ◌<◌, ◌^◌, true, take}
use Rattle.std.specs.Char.{is_ascii_digit}
use Rattle.std.specs.List.{list_all}
use Rattle.ecam_spec.specs.TermNumber.{digits_value}
use Rattle.replay_core.proofs.words.parse_number.Given as goal

-- the bytes so far are digits, and this is what they spell
abbrev pub invariant-loop-digit : goal.invariant-loop-digit
invariant-loop-digit l = record {
  digits : list_all is_ascii_digit (take l.digit-index l.digits) ≡ true;
  value : l.number ≡ digits_value (take l.digit-index l.digits);
  small : l.number < 10 ^ l.digit-index;
}
