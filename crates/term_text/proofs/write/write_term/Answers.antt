use Rattle.std.proofs.Common.{◌≡◌, ℕ, ◌≤◌, length, ◌++◌, ap, ◌∙◌, subst, sym, string_bytes}
use Rattle.std.proofs.lemmas.List.{length-map}
use Rattle.ecam_spec.specs.Book.{Text}
use Rattle.ecam_spec.specs.TermNames.{IsWithin}
use Rattle.ecam_spec.specs.TermText.{means}
use Rattle.ecam_spec.specs.TermVerdict.{IsVerdict}
use Rattle.term_tree.specs.View.{tree_of}
use Rattle.term_text.specs.Known.{known_names, texts_of}
use Rattle.term_text.specs.Written.{written}
use Rattle.term_text.proofs.WritableTrees.{names_there, text_short, text_means}
use Rattle.term_text.proofs.write.write_term.Goals as goal

pub push_condition-requires : goal.push_condition-requires
push_condition-requires c =
    let names = c.args.names.now in
    let tree = tree_of c.args.cond.now in
    let there = names_there (known_names names) c.requires.terms tree c.requires.readable in
    subst (λ (n : ℕ). IsWithin n (length names.alerts.now) tree) (length-map names.params.now (λ n. n.bytes))
    (subst (λ (n : ℕ). IsWithin (length (texts_of names.params.now)) n tree) (length-map names.alerts.now (λ n. n.bytes)) there)

pub returns-clause-short : goal.returns-clause-short
returns-clause-short c =
    let names = known_names c.args.names.now in
    let tree = tree_of c.args.cond.now in
    let e : string_bytes c.push_condition.new.text ≡ written names tree = c.in_ok-push_condition.ensures ∙ ap (λ (t : Text). t ++ written names tree) c.new-text.ensures.bytes in
    subst (λ (t : Text). length t ≤ 4096) (sym e) (text_short names c.requires.terms tree c.requires.readable)

pub returns-clause-reads_back : goal.returns-clause-reads_back
returns-clause-reads_back c =
    let names = known_names c.args.names.now in
    let tree = tree_of c.args.cond.now in
    let e : string_bytes c.push_condition.new.text ≡ written names tree = c.in_ok-push_condition.ensures ∙ ap (λ (t : Text). t ++ written names tree) c.new-text.ensures.bytes in
    subst (λ (t : Text). IsVerdict names t (means tree)) (sym e) (text_means names c.requires.terms tree c.requires.readable)
