use Rattle.std.proofs.Common.{codes, refl, sym, ◌∙◌, subst, lit<}
use Rattle.iloc_spec_grammar.specs.Syntax.{Language, languages, is_word, lower}
use Rattle.iloc_spec_grammar.specs.Values.{IsNormal}
use Rattle.iloc_subtags.proofs.identifier_kinds.WordOf+LanguageKind+8.unknown.Goals as goal

und_is_normal : IsNormal (Language languages) (codes "und")
unfolding is_word languages lower
und_is_normal = (refl, refl)

pub subtag_of_normal-requires : goal.subtag_of_normal-requires
subtag_of_normal-requires c = (
  lit< tt,
  subst (IsNormal (Language languages)) (sym (c.of_number.ensures (codes "und") refl refl))
      und_is_normal,
)

pub returns : goal.returns
returns c = c.subtag_of_normal.ensures ∙ c.of_number.ensures (codes "und") refl refl
