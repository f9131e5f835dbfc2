use Rattle.std.proofs.Common.{◌≡◌, ◌+◌, ap, sym, ◌∙◌, subst, lit<}
use Rattle.std.specs.Cmp.{second_so}
use Rattle.iloc_tinystr.specs.Number.{number}
use Rattle.iloc_spec_grammar.specs.Syntax.{Subtag, lower}
use Rattle.iloc_spec_grammar.specs.Values.{IsNormal}
use Rattle.iloc_subtags.specs.KindLaws.{lower_script_is_normal, subtag_fits}
use Rattle.iloc_subtags.proofs.KindLemmas.{script_lower}
use Rattle.iloc_subtags.proofs.identifier_kinds.SubtagFromScript.from.Goals.{After-of_number}
use Rattle.iloc_subtags.proofs.identifier_kinds.SubtagFromScript.from.Goals as goal

module _ (c : goal.After-of_number) where
  lowered : IsNormal Subtag (lower c.args.script)
  lowered = lower_script_is_normal c.args.script c.to_piece.ensures.normal

  read : c.of_number.result ≡ lower c.args.script
  read =
      c.of_number.ensures (lower c.args.script) (second_so _ _ (subtag_fits (lower c.args.script) lowered.0))
      (ap (λ y. y + 32) (c.number.ensures ∙ ap number c.to_piece.ensures.value)
      ∙ script_lower c.args.script c.to_piece.ensures.normal)

pub subtag_of_normal-requires : goal.subtag_of_normal-requires
subtag_of_normal-requires c = (lit< tt, subst (IsNormal Subtag) (sym (read c)) (lowered c))

pub returns : goal.returns
returns c = c.subtag_of_normal.ensures ∙ read (goal.at.returns c).After-of_number
