use Rattle.std.proofs.Common.{◌≡◌, ◌∙◌, ap, true, rules}
use Rattle.ecam_spec.specs.Word as fields
use Rattle.ecam_spec.specs.Reading.{digit}
use Rattle.arinc_words.specs.Composed.{made_odd, composed}
use Rattle.arinc_words.proofs.Composed.{composed-label, composed-sdi, composed-ssm, composed-data, composed-odd}
use Rattle.arinc_words.proofs.word.Word.compose.Goals as goal

pub returns-clause-word : goal.returns-clause-word
unfolding composed
returns-clause-word c = c.with_odd_parity.ensures ∙ ap made_odd c.join.ensures.word

pub returns-clause-label : goal.returns-clause-label
returns-clause-label c =
    ap fields.label (returns-clause-word c)
    ∙ composed-label c.args.label c.args.sdi c.args.field c.args.ssm c.ranges.label.fits c.requires.sdi c.requires.field c.requires.ssm

pub returns-clause-sdi : goal.returns-clause-sdi
returns-clause-sdi c =
    ap fields.sdi (returns-clause-word c)
    ∙ composed-sdi c.args.label c.args.sdi c.args.field c.args.ssm c.ranges.label.fits c.requires.sdi c.requires.field c.requires.ssm

pub returns-clause-field : goal.returns-clause-field
returns-clause-field c =
    ap (digit 11 19) (returns-clause-word c)
    ∙ composed-data c.args.label c.args.sdi c.args.field c.args.ssm c.ranges.label.fits c.requires.sdi c.requires.field c.requires.ssm

pub returns-clause-ssm : goal.returns-clause-ssm
returns-clause-ssm c =
    ap fields.ssm (returns-clause-word c)
    ∙ composed-ssm c.args.label c.args.sdi c.args.field c.args.ssm c.ranges.label.fits c.requires.sdi c.requires.field c.requires.ssm

pub returns-clause-odd : goal.returns-clause-odd
returns-clause-odd c =
    let odd : fields.is_odd c.with_odd_parity.result ≡ true =
    ap fields.is_odd (returns-clause-word c)
    ∙ composed-odd c.args.label c.args.sdi c.args.field c.args.ssm c.ranges.label.fits c.requires.sdi c.requires.field c.requires.ssm in
    search (rules, odd)
