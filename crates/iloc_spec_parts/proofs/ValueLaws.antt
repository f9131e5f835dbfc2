-- The text of a value is read as it.
use Rattle.std.proofs.Common.{◌≡◌, ◌≢◌, false, cond, List, [], ◌∷◌, refl, ap, ◌∙◌, Ok, Err}
use Rattle.std.specs.List.{AllByRecursion, list_all}
use Rattle.iloc_spec_grammar.specs.Syntax.{Text, pieces, join, Kind, Subtag, Attribute, is_word, IsWord, lower, is_true}
use Rattle.iloc_spec_grammar.specs.Meaning.{normal_values, InvalidSubtag, InvalidExtension}
use Rattle.iloc_spec_grammar.specs.Values.{IsNormal, spelled_value}
use Rattle.iloc_spec_grammar.proofs.PiecesLaws.{pieces-join}
use Rattle.iloc_spec_grammar.proofs.ReadBack.{word_hyphen_free}
use Rattle.iloc_spec_grammar.proofs.ValuesLaws.{all_weaker, values_fixed, spelled_rule, spelled_means}
use Rattle.iloc_spec_parts.specs.PartValues.{unicode_value, transform_value}
use Rattle.iloc_spec_grammar.proofs.RuleTests.{tests_all, tests_word}

cut : (k : Kind) (w : Text) (ws : List Text) → AllByRecursion (IsWord k) (w ∷ ws) →
    pieces (join (w ∷ ws)) ≡ w ∷ ws
cut k w ws h = search (pieces-join, all_weaker, word_hyphen_free)

no_empty : IsWord Subtag [] → ⊥
unfolding is_word
no_empty h = absurd (cc)

pub unicode_value_back : (ws : List Text) →
    AllByRecursion (λ w. IsNormal Subtag w × (is_true w ≡ false)) ws → unicode_value (join ws) ≡ Ok ws
unfolding join pieces
unicode_value_back [] h = refl
unicode_value_back (w ∷ ws) h = at (join (w ∷ ws)) (cut Subtag w ws words)
  where
    words : AllByRecursion (IsWord Subtag) (w ∷ ws)
    words =
        all_weaker (λ w. IsNormal Subtag w × (is_true w ≡ false)) (IsWord Subtag) (λ w n. n.0.0) (w ∷ ws) h

    at : (t : Text) → pieces t ≡ w ∷ ws → unicode_value t ≡ Ok (w ∷ ws)
    at [] e = let empty : [] ≡ w = cc in absurd (no_empty (ap (is_word Subtag) empty ∙ words.0))
    at (c ∷ t) e =
        ap (λ ps. cond (list_all (is_word Subtag) ps) (Ok (normal_values ps)) (Err InvalidSubtag)) e
        ∙ ap (λ b. cond b (Ok (normal_values (w ∷ ws))) (Err InvalidSubtag))
        ((tests_all (is_word Subtag) (IsWord Subtag) (tests_word Subtag) (w ∷ ws)).passes words)
        ∙ ap Ok (values_fixed (w ∷ ws)
        (all_weaker (λ w. IsNormal Subtag w × (is_true w ≡ false)) (λ w. lower w ≡ w) (λ w n. n.0.1) (w ∷ ws)
        h) (all_weaker (λ w. IsNormal Subtag w × (is_true w ≡ false)) (λ w. is_true w ≡ false) (λ w n. n.1)
        (w ∷ ws) h))

-- an empty one of a transform is spelled `true`
pub transform_value_back : (ws : List Text) →
    AllByRecursion (λ w. IsNormal Attribute w × (is_true w ≡ false)) ws →
    transform_value (join (spelled_value ws)) ≡ Ok ws
transform_value_back ws h =
    from (spelled_value ws) (spelled_rule ws h).0 (spelled_means ws h) (spelled_nonempty ws)
  where
    spelled_nonempty : (ws : List Text) → spelled_value ws ≢ []
    spelled_nonempty [] e = cc
    spelled_nonempty (w ∷ ws) e = cc

    from : (vs : List Text) → AllByRecursion (IsWord Attribute) vs → normal_values vs ≡ ws → vs ≢ [] →
        transform_value (join vs) ≡ Ok ws
    from [] a m n = absurd (n refl)
    from (v ∷ vs) a m n =
        ap (λ ps. cond (list_all (is_word Attribute) ps) (Ok (normal_values ps)) (Err InvalidExtension))
        (cut Attribute v vs a)
        ∙ ap (λ b. cond b (Ok (normal_values (v ∷ vs))) (Err InvalidExtension))
        ((tests_all (is_word Attribute) (IsWord Attribute) (tests_word Attribute) (v ∷ vs)).passes a)
        ∙ ap Ok m
