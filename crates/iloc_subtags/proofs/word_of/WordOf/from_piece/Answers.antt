use Rattle.std.proofs.Common.{◌≡◌, ◌∙◌, Ok, ap, sym, subst, rules, inl, inr}
use Rattle.iloc_spec_grammar.specs.Syntax.{IsWord, normal}
use Rattle.iloc_spec_grammar.specs.Values.{IsNormal}
use Rattle.iloc_spec_grammar.proofs.ReadWords.{IsNormal-normal}
use Rattle.iloc_spec_grammar.proofs.WordsLaws.{word_letters_or_digits}
use Rattle.iloc_subtags.proofs.KindLemmas.{in_lower_case}
use Rattle.iloc_subtags.proofs.word_of.WordOf.from_piece.Goals.{After-word_to_ascii_lowercase, then-this-eq2-via-then-this-eq2, then-this-eq2-via-else-this-eq2+then-this-eq8}
use Rattle.iloc_subtags.proofs.word_of.WordOf.from_piece.Goals as goal

module _ (g : _) (c : goal.After-word_to_ascii_lowercase g) where
  accepted : IsWord g.K.WordKind.kind c.args.piece
  accepted = sym c.accepts.ensures ∙ c.if-not-accepts.false

  lowered : c.word_to_ascii_lowercase.result ≡ normal g.K.WordKind.kind c.args.piece
  lowered =
      let size = g.met.K.WordKind.size in
      c.word_to_ascii_lowercase.ensures ∙ in_lower_case g.K.WordKind.kind g.row.N size
      (elim c.then-this-eq2.branch [
        | then-this-eq2-via-then-this-eq2 w ↦ inl w.if-this-eq2.true
        | then-this-eq2-via-else-this-eq2+then-this-eq8 w ↦ inr w.if-this-eq8.true
      ]) c.args.piece

pub word_to_ascii_lowercase-requires : goal.word_to_ascii_lowercase-requires
word_to_ascii_lowercase-requires g c =
    word_letters_or_digits g.K.WordKind.kind c.args.piece (sym c.accepts.ensures ∙ c.if-not-accepts.false)

pub subtag_of_normal-requires : goal.subtag_of_normal-requires
subtag_of_normal-requires g c =
    let kind = g.K.WordKind.kind in
    let is_normal : IsNormal kind c.word_to_ascii_lowercase.result =
    subst (IsNormal kind) (sym (lowered g c)) (IsNormal-normal kind c.args.piece (accepted g c)) in
    search rules

pub subtag_of_normal-requires-2 : goal.subtag_of_normal-requires-2
subtag_of_normal-requires-2 g c =
    let kind = g.K.WordKind.kind in
    let accepted : IsWord kind c.args.piece = sym c.accepts.ensures ∙ c.if-not-accepts.false in
    let is_normal : IsNormal kind c.normal.result =
    subst (IsNormal kind) (sym c.normal.ensures) (IsNormal-normal kind c.args.piece accepted) in
    search rules

pub returns-then-this-eq2 : goal.returns-then-this-eq2
returns-then-this-eq2 g c =
    let at = (goal.at.returns-then-this-eq2 g c).After-word_to_ascii_lowercase in
    rw (accepted g at) (ap Ok (c.subtag_of_normal.ensures ∙ lowered g at))
