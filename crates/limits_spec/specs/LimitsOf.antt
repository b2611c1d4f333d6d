-- The limits that a document without a fault is: its advisories in the file's order. These answer for every table, so
-- that they need no proof that a fault is absent.
use Rattle.std.specs.Prelude.{List, map, codes, unwrap_or}
use Rattle.toml.specs.Data.{Data, Members}
use Rattle.ecam_spec.specs.declared.limits.TheConstants.{WAIT}
use Rattle.ecam_spec.specs.Book.{Book}
use Rattle.book_spec.specs.Fields.{◌>>=◌, string_at}
use Rattle.book_spec.specs.Defaults.{table_in, name_or_none, number_or_least, phases_at}
use Rattle.view_spec.specs.Advisories.{Advisory}
use Rattle.view_spec.specs.Places.{number_place, page_place}
use Rattle.limits_spec.specs.Rules.{integer_at}
use Rattle.limits_spec.specs.Document.{advisories_in}

unfoldable pub advisory_in : Book → Data → Advisory
advisory_in b value =
    let table = table_in value in
    record {
      name = name_or_none table;
      param = unwrap_or (string_at (codes "param") table >>= number_place b) 0;
      page = unwrap_or (string_at (codes "page") table >>= page_place b) 0;
      low = integer_at (codes "low") table;
      high = integer_at (codes "high") table;
      margin = integer_at (codes "margin") table;
      confirm = number_or_least 0 WAIT (codes "confirm") table;
      inhibit = phases_at (codes "inhibit") table;
    }

unfoldable pub limits_of : Book → Members → List Advisory
limits_of b top = map (advisory_in b) (advisories_in top)
