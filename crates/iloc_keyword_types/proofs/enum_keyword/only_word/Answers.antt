use Rattle.std.proofs.Common.{◌∙◌, Some, refl, sym, ap, subst, codes}
use Rattle.iloc_spec_grammar.specs.Syntax.{Subtag, is_word, lower}
use Rattle.iloc_spec_grammar.specs.Values.{IsNormal, spelled_value}
use Rattle.iloc_spec_parts.specs.SingleValues.{single}
use Rattle.iloc_keyword_types.proofs.enum_keyword.only_word.Goals as goal

true_is_normal : IsNormal Subtag (codes "true")
unfolding is_word lower
true_is_normal = (refl, refl)

pub returns-then-is_empty-clause-value : goal.returns-then-is_empty-clause-value
returns-then-is_empty-clause-value c =
    ap Some (c.of_number.ensures (codes "true") refl refl)
    ∙ sym (ap (λ ws. single (spelled_value ws)) (c.if-is_empty.ensures.0 refl))

pub returns-then-is_empty-clause-normal : goal.returns-then-is_empty-clause-normal
returns-then-is_empty-clause-normal c =
    subst (IsNormal Subtag) (sym (c.of_number.ensures (codes "true") refl refl)) true_is_normal
