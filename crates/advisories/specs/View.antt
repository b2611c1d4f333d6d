-- What limits of the program mean: those of plain data, in which a name is its bytes and a set of phases its number.
use Rattle.std.specs.Prelude.{List, map}
use Rattle.view_spec.specs.Advisories as plain
use Rattle.advisories.specs.declared.limits.Advisory.{Advisory}
use Rattle.advisories.specs.declared.limits.Limits.{Limits}

abbrev pub advisory_of : Advisory → plain.Advisory
advisory_of a = record {
  name = a.name.bytes;
  param = a.param;
  page = a.page;
  low = a.low;
  high = a.high;
  margin = a.margin;
  confirm = a.confirm;
  inhibit = a.inhibit.0;
}

abbrev pub list_of : List Advisory → List plain.Advisory
list_of list = map advisory_of list

abbrev pub limits_of : Limits → List plain.Advisory
limits_of l = list_of l.list.items
