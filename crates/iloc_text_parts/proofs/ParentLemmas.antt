-- The text of a locale's parent, by its normal text.
use Rattle.std.proofs.Common.{◌≡◌, ◌≢◌, ◌-◌, Bool, true, false, List, [], ◌∷◌, ◌++◌, length, take, refl, sym, ap, ◌∙◌, subst, append-nil, codes, inl, inr, arith, ◌==◌, Option, Some, None, option_map, option_to_list}
use Rattle.std.proofs.lemmas.Bool.Decides.{nat_tests}
use Rattle.std.specs.Str.{bytes_eq}
use Rattle.std.proofs.lemmas.Bool.{false_from_ne_true}
use Rattle.std.proofs.lemmas.Slice.Eq.{bytes_eq-Decides}
use Rattle.iloc_spec_grammar.specs.Syntax.{Text, Identifier, dashes, identifier_pieces, join, languages, pieces}
use Rattle.iloc_spec_grammar.specs.Meaning.{Locale, no_extensions, without_extensions}
use Rattle.iloc_spec_grammar.specs.Reading.{rest_of}
use Rattle.iloc_spec_grammar.specs.Values.{IsValue, IsWellFormed, extensions_spelling, identifier_text, text}
use Rattle.iloc_spec_grammar.proofs.Corollaries.{same_text_same_value}
use Rattle.iloc_spec_grammar.proofs.MapLaws.{same_is}
use Rattle.iloc_spec_grammar.proofs.PartTexts.{join-append, text_of_parts}
use Rattle.iloc_spec_grammar.proofs.SameText.{well_formed_is}
use Rattle.iloc_langid.specs.Parents.{is_unknown_language, parent_of}
use Rattle.iloc_langid.specs.Unknown.{unknown_identifier}
use Rattle.iloc_langid.proofs.ParentLemmas.{lacks_last}
use Rattle.iloc_locale.specs.LocaleParents.{IsParent}
use Rattle.iloc_locale.specs.LocaleReading.{unknown_locale}
use Rattle.iloc_locale.proofs.ParentLemmas.{only_und}
use Rattle.iloc_text_parts.specs.Cuts.{last_of}
use Rattle.iloc_text_parts.specs.Parts.{IsParentText}
use Rattle.iloc_text_parts.specs.Tails.{IsTail, tail_pieces}
use Rattle.iloc_text_parts.proofs.CutLemmas.{after_first, is_value}
use Rattle.iloc_text_parts.proofs.TailLemmas.{before_tail}

-- texts of identifiers without extensions

nothing_spelled : extensions_spelling no_extensions ≡ []
unfolding extensions_spelling
nothing_spelled = refl

text_alone : (i : Identifier) → text (without_extensions i) ≡ identifier_text i
text_alone i = text_of_parts (without_extensions i)
    ∙ ap (λ ps. identifier_text i ++ dashes ps) nothing_spelled ∙ append-nil (identifier_text i)

text_und : text (without_extensions unknown_identifier) ≡ codes "und"
unfolding identifier_text join
text_und = text_alone unknown_identifier

pub no_dashes : (ps : List Text) → dashes ps ≡ [] → ps ≡ []
no_dashes [] e = refl
no_dashes (p ∷ ps) e = absurd cc

-- what a test of a text tells

pub is_nothing : (b : Bool) (x : Text) → b ≡ (length x == 0) → b ≡ true → x ≡ []
is_nothing b [] e h = refl
is_nothing b (c ∷ x) e h =
    absurd (let f : (length (c ∷ x) == 0) ≡ true = sym e ∙ h in grind (arith, nat_tests))

pub is_something : (b : Bool) (x : Text) → b ≡ (length x == 0) → b ≡ false → x ≢ []
is_something b x e h z =
    absurd (let g : true ≡ false = sym (ap (λ (y : Text). length y == 0) z) ∙ sym e ∙ h in cc)

no_pieces : (t : Text) → IsTail t → tail_pieces t ≡ [] → t ≡ []
no_pieces t h e = h ∙ ap dashes e

-- the last piece

last-behind : (p : Text) (ps : List Text) → ps ≢ [] → last_of (p ∷ ps) ≡ last_of ps
last-behind p [] n = absurd (n refl)
last-behind p (q ∷ ps) n = refl

last-append : (ps : List Text) (w : Text) → last_of (ps ++ w ∷ []) ≡ w ∷ []
last-append [] w = refl
last-append (p ∷ []) w = refl
last-append (p ∷ q ∷ ps) w = last-append (q ∷ ps) w

nothing_left : {X : Type 0} (xs ys : List X) → xs ++ ys ≡ [] → (xs ≡ []) × (ys ≡ [])
nothing_left [] ys e = (refl, e)
nothing_left (x ∷ xs) ys e = absurd cc

none_from : (o : Option Text) → option_to_list o ≡ [] → o ≡ None
none_from None e = refl
none_from (Some x) e = absurd cc

module _ (M : Locale) (w : IsWellFormed M) (n : Text) (e : n ≡ text M) where
  -- a locale with extensions
  pub without_is : (x base : Text) → x ≡ dashes (extensions_spelling M.extensions) → x ≢ []
      → base ≡ identifier_text M.id → IsParentText M (Some base)
  without_is x base s some b = (
    Some (without_extensions M.id),
    inl (
      (λ f. some (s ∙ ap (λ t. dashes (extensions_spelling t)) f ∙ ap dashes nothing_spelled)),
      refl,
    ),
    ap Some (b ∙ sym (text_alone M.id)),
  )

  -- a locale without extensions
  module _ (no_rest : extensions_spelling M.extensions ≡ []) where
    text_is : text M ≡ identifier_text M.id
    text_is = text_of_parts M ∙ ap (λ ps. identifier_text M.id ++ dashes ps) no_rest
        ∙ append-nil (identifier_text M.id)

    alone_value : IsValue languages (without_extensions M.id)
    alone_value = record {
      id = (is_value M w).id;
      extensions = record {
        unicode = record { attributes = tt; ascending = tt; keywords = tt; keys_ascend = refl };
        transform = record { id = tt; fields = tt; keys_ascend = refl };
        private = tt;
        others = tt;
      };
    }

    alone : without_extensions M.id ≡ M
    alone = same_text_same_value (without_extensions M.id) M
        ((well_formed_is (without_extensions M.id) alone_value).1
        (record { ascending = refl; singletons = tt; nonempty = tt; values = tt }))
        w (text_alone M.id ∙ sym text_is)

    no_more : M.extensions ≡ no_extensions
    no_more = ap (λ (N : Locale). N.extensions) (sym alone)

    behind : rest_of (pieces n) ≡ rest_of (identifier_pieces M.id)
    behind = after_first M w n e ∙ ap (λ ps. option_to_list M.id.script ++ (option_to_list M.id.region
        ++ (M.id.variants ++ ps))) no_rest
        ∙ ap (λ ps. option_to_list M.id.script ++ (option_to_list M.id.region ++ ps))
        (append-nil M.id.variants)

    is_parent : (o : Option Identifier) → parent_of M.id ≡ o → IsParent M (option_map without_extensions o)
    is_parent o p = inr (no_more, ap (option_map without_extensions) (sym p))

    -- with words after its language
    module _ (words : Text) (tail : IsTail words) (left : tail_pieces words ≡ rest_of (pieces n))
        (some : words ≢ []) where
      pieces_some : tail_pieces words ≢ []
      pieces_some q = some (no_pieces words tail q)

      by : (last : Text) → last ≡ dashes (last_of (tail_pieces words))
          → (o : Option Identifier) → parent_of M.id ≡ o
          → IsParentText M (Some (take (length n - length last) n))
      unfolding identifier_text
      by last h None p =
          let und : M ≡ unknown_locale = (only_und M).0 (is_parent None p) in
          absurd (pieces_some (left ∙ behind ∙ ap (λ (N : Locale). rest_of (identifier_pieces N.id)) und))
      by last h (Some p) q = elim (lacks_last M.id p q) [
        | inl l ↦ (
          Some (without_extensions p),
          is_parent (Some p) q,
          ap Some (before_tail n (identifier_text p) last (e ∙ text_is ∙ ap join l.1
              ∙ join-append p.language _ (l.0 ∷ [])
              ∙ ap (λ t. identifier_text p ++ t)
              (sym (h ∙ ap dashes (last_is l.0 (identifier_pieces p) l.1))))
              ∙ sym (text_alone p)),
        )
        | inr l ↦ absurd (pieces_some (left ∙ behind ∙ ap rest_of l.0))
      ]
        where
          last_is : (v : Text) (ps : List Text) → identifier_pieces M.id ≡ ps ++ v ∷ []
              → last_of (tail_pieces words) ≡ v ∷ []
          last_is v ps l = ap last_of (left ∙ behind)
              ∙ sym (last-behind M.id.language (rest_of (identifier_pieces M.id))
              (λ z. pieces_some (left ∙ behind ∙ z)))
              ∙ ap last_of l ∙ last-append ps v

      pub shorter_is : (last : Text) → last ≡ dashes (last_of (tail_pieces words))
          → (base : Text) → base ≡ take (length n - length last) n
          → IsParentText M (Some base)
      shorter_is last h base b = subst (λ (t : Text). IsParentText M (Some t)) (sym b)
          (by last h (parent_of M.id) refl)

    -- with a language alone
    module _ (words : Text) (left : tail_pieces words ≡ rest_of (pieces n)) (no_words : words ≡ []) where
      no_pieces_left : rest_of (identifier_pieces M.id) ≡ []
      no_pieces_left = sym behind ∙ sym left ∙ ap tail_pieces no_words

      id_is : M.id ≡ record { language = M.id.language; script = None; region = None; variants = [] }
      id_is =
          let a = nothing_left (option_to_list M.id.script) _ no_pieces_left in
          let b = nothing_left (option_to_list M.id.region) M.id.variants a.1 in
          λ k. record {
            language = M.id.language;
            script = none_from M.id.script a.0 k;
            region = none_from M.id.region b.0 k;
            variants = b.1 k;
          }

      pub und_is : (l : Text) → l ≡ M.id.language → bytes_eq l (codes "und") ≡ true → IsParentText M None
      und_is l f b =
          let und : M.id.language ≡ codes "und" = sym f ∙ (bytes_eq-Decides l (codes "und")).0 b in
          let id : M.id ≡ unknown_identifier = id_is
          ∙ ap (λ v. record { language = v; script = None; region = None; variants = [] }) und in
          (None, (only_und M).1 (sym alone ∙ ap without_extensions id), refl)

      pub language_is : (l : Text) → l ≡ M.id.language → bytes_eq l (codes "und") ≡ false
          → IsParentText M (Some (codes "und"))
      language_is l f b =
          let other : is_unknown_language M.id.language ≡ false = false_from_ne_true _ (λ s.
          let und : M.id.language ≡ codes "und" = same_is M.id.language (codes "und") s in
          let t : bytes_eq l (codes "und") ≡ true = (bytes_eq-Decides l (codes "und")).1 (f ∙ und) in
          absurd (let g : true ≡ false = sym t ∙ b in cc)) in
          let p : parent_of M.id ≡ Some unknown_identifier = ap parent_of id_is ∙ rw other refl in (
            Some (without_extensions unknown_identifier),
            is_parent (Some unknown_identifier) p,
            ap Some (sym text_und),
          )
