-- The text of a subdivision is a subtag, and read as the subdivision.
use Rattle.std.proofs.Common.{◌≡◌, ◌++◌, sym, ap₂, ◌∙◌, subst, true}
use Rattle.std.specs.List.{list_all}
use Rattle.std.specs.Cmp.{second_so}
use Rattle.iloc_tinystr.specs.TinyText.{is_text_byte}
use Rattle.iloc_subtags.specs.KindLaws.{subtag_fits}
use Rattle.iloc_spec_grammar.specs.Syntax.{Text, Subtag, lower}
use Rattle.iloc_spec_grammar.specs.Values.{IsNormal}
use Rattle.iloc_spec_parts.specs.Subdivisions.{Subdivision, IsSubdivision, subdivision_text}
use Rattle.iloc_spec_parts.proofs.SubdivisionLaws.{subdivision_back, subdivision_is_subtag, text_of_read}

-- a lower-case region and a suffix are the text
pub joined : (s : Subdivision) → IsSubdivision s → (a b t : Text) → t ≡ a ++ b → a ≡ lower s.region →
    b ≡ s.suffix → t ≡ subdivision_text s
joined s h a b t e ea eb = e ∙ ap₂ ◌++◌ ea (eb ∙ sym h.suffix.1)

pub joined_normal : (s : Subdivision) → IsSubdivision s → (t : Text) → t ≡ subdivision_text s →
    IsNormal Subtag t
joined_normal s h t e = subst (IsNormal Subtag) (sym e)
    (subdivision_is_subtag s h, sym (text_of_read (subdivision_text s) s (subdivision_back s h)))

-- a subtag is ASCII, without zeros
pub subtag_bytes : (w : Text) → IsNormal Subtag w → list_all is_text_byte w ≡ true
subtag_bytes w h = second_so _ _ (subtag_fits w h.0)
