-- An identifier without extensions.
use Rattle.std.proofs.Common.{◌≡◌, ◌↔◌, ℕ, ◌<◌, true, cond, List, [], ◌∷◌, length, map, filter, Option, Some, None, option_map, refl, sym, ap, ◌∙◌, subst}
use Rattle.std.specs.List.{AllByRecursion}
use Rattle.std.specs.Char.{is_ascii_alphanumeric}
use Rattle.std.specs.Ordering.{nat_cmp}
use Rattle.std.specs.Cmp.{nat_cmp_total}
use Rattle.std.proofs.lemmas.Bool.{eq-eqb}
use Rattle.iloc_spec_grammar.specs.Syntax.{Block, Fields, Identifier, Spelled, SpelledIdentifier, SpelledTransform, SpelledUnicode, Transform, Unicode, head, is_other_singleton, kept, languages, lower, lower_singleton, pieces, tail_blocks, transform_pieces, unicode_pieces, word_cmp, fields_pieces, code_x, code_u, code_t, Text}
use Rattle.iloc_spec_grammar.specs.Meaning.{BlocksMean, Extensions, IdentifierMeans, Means, SpelledExtensions, after, map_of, no_extensions, no_transform, no_unicode, normal_identifier, normal_transform, normal_unicode, set_of}
use Rattle.iloc_spec_grammar.specs.Values.{text, identifier_text}
use Rattle.iloc_spec_grammar.proofs.MapLaws.{word_cmp_total}
use Rattle.iloc_spec_grammar.proofs.Singletons.{IsKind, of_u, of_t, of_x, another, kind_of, lower_letter}
use Rattle.iloc_spec_parts.proofs.SmallShapes.{none_there, none_mapped, no_normal_fields, nothing_here, none_of_both}
use Rattle.iloc_normalize.proofs.PlainAnswers as alone
use Rattle.iloc_langid.proofs.BlockLemmas.{front_all}

-- the text of an identifier alone
pub text_alone : (i : Identifier) (e : Extensions) → e ≡ no_extensions
    → text (record { id = i; extensions = e }) ≡ identifier_text i
text_alone i e n =
    ap (λ (x : Extensions). text (record { id = i; extensions = x })) n ∙ alone.text_alone i

-- A block has a piece, which some part of the extensions takes.

abbrev HasPieces : Block → Type 0
HasPieces b = (is_ascii_alphanumeric b.0 ≡ true) × (0 < length b.1)

abbrev lowered : Block → Block
lowered b = (lower_singleton b, b.1)

abbrev others_in : List Block → List Block
others_in bs = filter {X = Block} (λ b. is_other_singleton b.0) (map lowered bs)

no_block : (bs : List Block) → AllByRecursion HasPieces bs → after code_u bs ≡ [] → after code_t bs ≡ []
    → after code_x bs ≡ [] → others_in bs ≡ [] → bs ≡ []
no_block [] h u t x o = refl
no_block (b ∷ bs) h u t x o = absurd (at (kind_of (lower_singleton b) (lower_letter b.0 h.0.0)))
  where
    none_after : (s : ℕ) → lower_singleton b ≡ s → after s (b ∷ bs) ≡ [] → ⊥
    none_after s e n =
        let here = ap (λ t. cond t b.1 []) (sym (eq-eqb (lower_singleton b) s e)) in
        nothing_here b.1 h.0.1 (here ∙ (none_of_both _ (after s bs) n).0)

    at : IsKind (lower_singleton b) → ⊥
    at (of_u e) = none_after code_u e u
    at (of_t e) = none_after code_t e t
    at (of_x e) = none_after code_x e x
    at (another e) =
        let some : lowered b ∷ others_in bs ≡ [] =
        ap (λ t. cond t (lowered b ∷ others_in bs) (others_in bs)) (sym e) ∙ o in
        cc

-- parts that mean nothing have no piece

no_words : (ws : List Text) → set_of (map lower ws) ≡ [] → ws ≡ []
no_words ws e =
    let entries = none_mapped (λ (e : Text × Text). e.0) _ e in
    none_mapped lower ws
    (none_mapped (λ (w : Text). (w, w)) (map lower ws) (none_there word_cmp word_cmp_total _ entries))

no_unicode_pieces : (u : SpelledUnicode) → no_unicode ≡ normal_unicode u → unicode_pieces u ≡ []
no_unicode_pieces u e =
    let attributes = no_words u.attributes (sym (ap (λ (v : Unicode). v.attributes) e)) in
    let keywords = no_normal_fields u.keywords (sym (ap (λ (v : Unicode). v.keywords) e)) in
    rw (attributes, keywords) refl

no_transform_pieces : (m : SpelledTransform) → no_transform ≡ normal_transform m →
    transform_pieces m ≡ []
no_transform_pieces m e =
    from m.id m.fields (ap (λ (n : Transform). n.id) e)
    (no_normal_fields m.fields (sym (ap (λ (n : Transform). n.fields) e)))
  where
    from : (o : Option SpelledIdentifier) (fs : Fields)
        → ◌≡◌ {A = Option Identifier} None (option_map normal_identifier o) → fs ≡ []
        → transform_pieces {s = Spelled} (record { id = o; fields = fs }) ≡ []
    from None fs n k = ap fields_pieces k
    from (Some i) fs n k = absurd (cc)

abbrev kept_of : Block → Block
kept_of o = (o.0, kept o.1)

no_others : (w : SpelledExtensions) → [] ≡ map_of nat_cmp (map kept_of w.others) → w.others ≡ []
no_others w e = none_mapped kept_of w.others (none_there nat_cmp nat_cmp_total _ (sym e))

mean_none : (bs : List Block) → BlocksMean languages bs no_extensions → bs ≡ []
mean_none bs (w, s, m) =
    no_block bs s.each_block
    (s.unicode.1 ∙ no_unicode_pieces w.unicode (ap (λ (e : Extensions). e.unicode) m))
    (s.transform.1 ∙ no_transform_pieces w.transform (ap (λ (e : Extensions). e.transform) m))
    (s.private.1 ∙ none_mapped lower w.private (sym (ap (λ (e : Extensions). e.private) m)))
    (s.others.1 ∙ no_others w (ap (λ (e : Extensions). e.others) m))

-- So the pieces are all in the head.

whole_head : (ps : List Text) → tail_blocks ps ≡ [] → head ps ≡ ps
whole_head [] h = refl
whole_head (p ∷ ps) h = ap (λ qs. p ∷ qs) (front_all ps h)

-- a text means an identifier alone exactly if its pieces mean the identifier
pub means_alone : (t : Text) (i : Identifier) (e : Extensions) → e ≡ no_extensions
    → IdentifierMeans languages (pieces t) i ↔ Means languages t (record { id = i; extensions = e })
means_alone t i e n =
    let ps = pieces t in
    subst (λ (x : Extensions). IdentifierMeans languages ps i
    ↔ Means languages t (record { id = i; extensions = x })) (sym n) (
      alone.means_alone t i,
      λ m.
          let whole = whole_head ps (mean_none (tail_blocks ps) m.extensions) in
          subst (λ qs. IdentifierMeans languages qs i) whole m.id,
    )
