-- The faults that the readers of the parts name.
use Rattle.std.proofs.Common.{◌≡◌, ◌⊎◌, List, refl, arith}
use Rattle.iloc_spec_grammar.specs.Syntax.{Text, languages}
use Rattle.iloc_spec_grammar.specs.Meaning.{Fault, InvalidSubtag, InvalidExtension}
use Rattle.iloc_spec_parts.specs.Fronts.{KeywordsFault, bad_key, UnicodeFault, TransformFault, OtherFault, no_word, PrivateFault, not_private}

keywords_names : (ps : List Text) (f : Fault) → KeywordsFault ps f → f ≡ InvalidExtension
keywords_names ps f (bad_key h) = refl

pub unicode_names : (ps : List Text) (f : Fault) → UnicodeFault ps f → f ≡ InvalidExtension
unicode_names ps f h = grind (arith, keywords_names)

pub transform_names : (ps : List Text) (f : Fault) → TransformFault languages ps f →
    (f ≡ InvalidSubtag) ⊎ (f ≡ InvalidExtension)
transform_names ps f h = grind arith

pub other_names : (ps : List Text) (f : Fault) → OtherFault ps f → f ≡ InvalidExtension
other_names ps f (no_word h) = refl

pub private_names : (ps : List Text) (f : Fault) → PrivateFault ps f → f ≡ InvalidExtension
private_names ps f (not_private h) = refl
