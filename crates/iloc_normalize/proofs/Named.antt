-- What is written of a head and a subdivision.
use Rattle.std.proofs.Common.{◌≡◌, ◌≢◌, ◌⊎◌, inl, inr, ℕ, ◌+◌, ◌-◌, Bool, true, false, ◌∷◌, ◌++◌, map, take, codes, Option, Some, None, refl, sym, ap, ◌∙◌, arith, append_assoc, IfSome}
use Rattle.iloc_spec_grammar.specs.Syntax.{Text, SpelledIdentifier, Region, IsWord, dashes, is_same, join, lower, upper}
use Rattle.iloc_spec_grammar.specs.Meaning.{normal_identifier}
use Rattle.iloc_spec_grammar.proofs.WordsLaws.{length-region}
use Rattle.iloc_spec_parts.specs.DataLocales.{DataLocale, data_text, is_whole, whole}
use Rattle.iloc_spec_parts.specs.Subdivisions.{Subdivision}
use Rattle.iloc_outline.specs.Identifier.{front_text}
use Rattle.iloc_outline.specs.Parts.{front_pieces}
use Rattle.iloc_normalize.specs.Data.{HasValue, IsRegionStart}
use Rattle.iloc_normalize.specs.Subdivisions.{bytes_at}
use Rattle.iloc_normalize.specs.declared.data.DataHead.{DataHead}
use Rattle.iloc_normalize.specs.declared.subdivisions.SubdivisionValue.{SubdivisionValue}
use Rattle.iloc_normalize.proofs.Texts as texts

-- a region that is nowhere is none
no_region : (w : Text) (end : ℕ) (o : Option Text) → IfSome o (IsWord Region) → (at : ℕ) → at ≡ end
    → IsRegionStart w end o at → o ≡ None
no_region w end None h at e s = refl
no_region w end (Some r) h at e s = let l = length-region r h in let n = s.0 in absurd (omega arith)

pub record Given (w : Text) (end at : ℕ) (o : Option Text) : Type 0 where
  pub region : Text
  pub is : o ≡ Some region
  pub word : IsWord Region region
  pub bytes : bytes_at w at (end - at) ≡ region

-- one that is somewhere is there
some_region : (w : Text) (end : ℕ) (o : Option Text) → IfSome o (IsWord Region) → (at : ℕ) → at ≢ end
    → IsRegionStart w end o at
    → Given w end at o
some_region w end None h at e s = absurd (e s)
some_region w end (Some r) h at e s = record { region = r; is = refl; word = h; bytes = s.1 }

module _ (w : Text) (len : ℕ) (h : DataHead) (v : SubdivisionValue) (d : DataLocale)
    (x : HasValue w len h v d) where
  abbrev i : SpelledIdentifier
  i = x.written

  abbrev s : Subdivision
  s = x.named

  abbrev b : Text
  b = bytes_at w v.at v.len

  -- whether the subdivision is all of its region
  whole_is : is_whole s ≡ is_same (lower (bytes_at w (v.at + v.region) (v.len - v.region))) whole
  whole_is = ap (λ t. is_same t whole) x.names.suffix

  module _ (start : ℕ) (found : IsRegionStart w h.front.end i.region start) where
    -- no region
    module _ (e : start ≡ h.front.end) (put : Text)
        (written : put ≡ (front_text h.front.script h.front.region (take h.front.end w) ++ 45 ∷ upper
        (bytes_at w v.at v.region))
        ++ lower (bytes_at w h.front.end (h.end - h.front.end))) where
      none : i.region ≡ None
      none = no_region w h.front.end i.region x.head.words.region start e found

      put_is : put ≡ (join (front_pieces (normal_identifier i)) ++ 45 ∷ s.region) ++ dashes
          (map lower i.variants)
      put_is = written ∙ (λ j. (x.head.printed j ++ 45 ∷ sym x.names.region j) ++ x.head.variant j)

      pub put_whole : (is : Bool)
          → is ≡ is_same (lower (bytes_at w (v.at + v.region) (v.len - v.region))) whole → is ≡ true
          → put ≡ data_text d
      put_whole is same holds =
          put_is ∙ sym (texts.inserted i x.head.few b s x.names.names x.names.other none (whole_is
          ∙ sym same ∙ holds))
          ∙ ap data_text (sym x.is)

      pub put_part : (is : Bool)
          → is ≡ is_same (lower (bytes_at w (v.at + v.region) (v.len - v.region))) whole → is ≡ false
          → (all : Text) → all ≡ (put ++ codes "-u-sd-") ++ lower b → all ≡ data_text d
      put_part is same holds all parts =
          parts ∙ append_assoc put (codes "-u-sd-") (lower b)
          ∙ ap (λ t. t ++ (codes "-u-sd-" ++ lower b)) put_is
          ∙ sym (texts.inserted_kept i x.head.few b s x.names.names x.names.other none (whole_is
          ∙ sym same ∙ holds))
          ∙ ap data_text (sym x.is)

    -- a region
    module _ (e : start ≢ h.front.end) (region : Text) (bytes : region ≡ upper (bytes_at w start
        (h.front.end - start))) where
      given : Given w h.front.end start i.region
      given = some_region w h.front.end i.region x.head.words.region start e found

      region_is : region ≡ upper given.region
      region_is = bytes ∙ ap upper given.bytes

      same_is : (agrees : Bool) → agrees ≡ is_same region (upper (bytes_at w v.at v.region))
          → is_same (upper given.region) s.region ≡ agrees
      same_is agrees a = (λ j. is_same (sym region_is j) (x.names.region j)) ∙ sym a

      pub put_head : (agrees is : Bool) → agrees ≡ is_same region (upper (bytes_at w v.at v.region))
          → is ≡ is_same (lower (bytes_at w (v.at + v.region) (v.len - v.region))) whole
          → (agrees ≡ false) ⊎ (is ≡ true)
          → (put : Text) → put ≡ front_text h.front.script h.front.region (take h.end w) → put ≡ data_text d
      put_head agrees is a same differs put written =
          written ∙ x.head.whole
          ∙ sym (texts.dropped i x.head.few b s x.names.names x.names.other given.region given.is
          given.word (by differs))
          ∙ ap data_text (sym x.is)
        where
          by : (agrees ≡ false) ⊎ (is ≡ true) → (is_same (upper given.region) s.region ≡ false)
              ⊎ (is_whole s ≡ true)
          by (inl other) = inl (same_is agrees a ∙ other)
          by (inr all) = inr (whole_is ∙ sym same ∙ all)

      pub put_all : (agrees is : Bool) → agrees ≡ is_same region (upper (bytes_at w v.at v.region))
          → is ≡ is_same (lower (bytes_at w (v.at + v.region) (v.len - v.region))) whole → agrees ≡ true
          → is ≡ false
          → (put : Text) → put ≡ front_text h.front.script h.front.region (take h.end w)
          → (all : Text) → all ≡ (put ++ codes "-u-sd-") ++ lower b → all ≡ data_text d
      put_all agrees is a same agree part put written all parts =
          parts ∙ append_assoc put (codes "-u-sd-") (lower b)
          ∙ ap (λ t. t ++ (codes "-u-sd-" ++ lower b)) (written ∙ x.head.whole)
          ∙ sym (texts.kept i x.head.few b s x.names.names x.names.other given.region given.is given.word
          (same_is agrees a ∙ agree) (whole_is ∙ sym same ∙ part))
          ∙ ap data_text (sym x.is)
