-- The printed text is the text of the printed tree, so that the tests tell which values are well-formed.
use Rattle.std.proofs.Common.{arith, ◌≡◌, ◌↔◌, ℕ, Bool, cond, List, [], ◌∷◌, ◌++◌, length, map, flat_map, refl, sym, ap, ◌∙◌, subst, option_to_list, nat_lt, append_assoc, append-nil}
use Rattle.std.proofs.lemmas.Bool.{cond_both}
use Rattle.std.proofs.lemmas.List.{map-append}
use Rattle.std.proofs.lemmas.List.Concat.{flat_map-append}
use Rattle.iloc_spec_grammar.specs.Syntax.{Block, code_x, Text, join, AreLengths, languages, SpelledTransform, Unicode, Transform, identifier_pieces}
use Rattle.iloc_spec_grammar.specs.Tree.{Extension, other, block_pieces, spelling, transform_form, unicode_form, others_form, private_form, extensions_form, before_t, after_t, printed, tree_text, form_pieces, TreeMeans, IsTreeWellFormed, spelled_transform}
use Rattle.iloc_spec_grammar.specs.Meaning.{Locale, Extensions, Means}
use Rattle.iloc_spec_grammar.specs.Values.{unicode_spelling, transform_spelling, other_spelling, private_spelling, extensions_spelling, text, IsValue, IsWellFormed}
use Rattle.iloc_spec_grammar.proofs.PartTexts as parts
use Rattle.iloc_spec_grammar.proofs.ReadBack as back
use Rattle.iloc_spec_grammar.proofs.WellRead.{means_well_formed}
use Rattle.iloc_spec_grammar.proofs.SameMeaning.{tree_means, means_by_tree}
use Rattle.iloc_spec_grammar.proofs.RawLaws.{languages_table}

-- each part

pub unicode_spelling_is : (u : Unicode) → unicode_spelling u ≡ form_pieces (unicode_form u)
unicode_spelling_is u = parts.unicode_spelling_is u ∙ grind (arith, append-nil)

pub transform_spelling_is : (m : Transform) → transform_spelling m ≡ form_pieces (transform_form m)
transform_spelling_is m =
    let n : SpelledTransform = spelled_transform m in
    parts.transform_spelling_is m
    ∙ grind (arith, append-nil)

pub other_spelling_is : (o : Block) → other_spelling o ≡ form_pieces (others_form (o ∷ []))
other_spelling_is o = parts.other_spelling_is o ∙ grind (arith, append-nil)

pub others_spelling_is : (os : List Block) →
    flat_map other_spelling os ≡ form_pieces (others_form os)
others_spelling_is [] = refl
others_spelling_is (o ∷ os) = cond_both (nat_lt 0 (length o.1)) _ _ (λ l.
    flat_map other_spelling (o ∷ os) ≡ form_pieces (map (λ (o : Block). (o.0, other o.1)) l))
    (λ e. ap (λ l. l ++ flat_map other_spelling os)
    (parts.other_spelling_is o ∙ ap (λ b. cond b ((o.0 ∷ []) ∷ o.1) []) e)
    ∙ ap (λ l. ((o.0 ∷ []) ∷ o.1) ++ l) (others_spelling_is os))
    (λ e. ap (λ l. l ++ flat_map other_spelling os)
    (parts.other_spelling_is o ∙ ap (λ b. cond b ((o.0 ∷ []) ∷ o.1) []) e)
    ∙ others_spelling_is os)

pub private_spelling_is : (ws : List Text) →
    private_spelling ws ≡ flat_map block_pieces (option_to_list (private_form ws))
private_spelling_is [] = parts.private_spelling_none
private_spelling_is (w ∷ ws) = parts.private_spelling_is w ws ∙ sym (append-nil ((code_x ∷ []) ∷ (w ∷ ws)))

-- all parts

form_pieces-append : (es fs : List (ℕ × Extension)) →
    form_pieces (es ++ fs) ≡ form_pieces es ++ form_pieces fs
form_pieces-append es fs = rw (map-append, flat_map-append)

pub extensions_spelling_is : (e : Extensions) →
    extensions_spelling e
    ≡ form_pieces (extensions_form e) ++ flat_map block_pieces (option_to_list (private_form e.private))
extensions_spelling_is e =
    let o = others_form (before_t e.others) in
    let t = transform_form e.transform in
    let u = unicode_form e.unicode in
    let r = others_form (after_t e.others) in
    let x = flat_map block_pieces (option_to_list (private_form e.private)) in
    parts.spelling_of_parts e
    ∙ (λ k. others_spelling_is (before_t e.others) k
    ++ (transform_spelling_is e.transform k
    ++ (unicode_spelling_is e.unicode k
    ++ (others_spelling_is (after_t e.others) k ++ private_spelling_is e.private k))))
    ∙ sym (
    search (form_pieces-append, append_assoc))

-- the pieces of a locale, and its text

pub pieces_are : (M : Locale) →
    identifier_pieces M.id ++ extensions_spelling M.extensions ≡ spelling (printed M)
pieces_are M = simp (extensions_spelling_is, flat_map-append)

pub text_is : (M : Locale) → text M ≡ tree_text M
text_is M = ap join (pieces_are M)

-- a value is well-formed, by its text, if it passes the tests

pub well_formed_in : {T : ℕ → Bool} → AreLengths T → (M : Locale) → IsValue T M →
    Means T (text M) M ↔ IsTreeWellFormed M
well_formed_in {T = T} table M h = (
  λ m. means_well_formed (text M) M (tree_means (text M) M m),
  λ g. means_by_tree table (text M) M
      (subst (λ (t : Text). TreeMeans T t M) (sym (text_is M)) (back.reads_back M h g)),
)

pub well_formed_is : (M : Locale) → IsValue languages M → IsWellFormed M ↔ IsTreeWellFormed M
well_formed_is = well_formed_in languages_table
