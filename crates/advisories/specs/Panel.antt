-- The panel's rows of the program, as plain data.
use Rattle.view_spec.specs.Advisories as plain
use Rattle.advisories.specs.declared.panel.Panel.{Panel}

abbrev pub rows_of : Panel → plain.Rows
rows_of p = record { advisory = p.advisory.items; page = p.page.items }
