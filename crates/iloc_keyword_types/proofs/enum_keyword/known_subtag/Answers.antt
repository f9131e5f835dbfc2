use Rattle.std.proofs.Common.{◌∙◌, sym, subst, lit<}
use Rattle.iloc_spec_grammar.specs.Syntax.{Subtag}
use Rattle.iloc_spec_grammar.specs.Values.{IsNormal}
use Rattle.iloc_keyword_types.proofs.TextLemmas.{subtag_bytes}
use Rattle.iloc_keyword_types.proofs.enum_keyword.known_subtag.Goals as goal

pub subtag_of_normal-requires : goal.subtag_of_normal-requires
subtag_of_normal-requires c =
    let w = c.requires.0 in
    let normal = c.requires.1 in (
      lit< tt,
      subst (IsNormal Subtag) (sym (c.of_number.ensures w (subtag_bytes w normal) c.requires.2))
          normal,
    )

pub returns : goal.returns
returns c = λ w normal e. c.subtag_of_normal.ensures ∙ c.of_number.ensures w (subtag_bytes w normal) e
