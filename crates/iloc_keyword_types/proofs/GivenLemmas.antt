-- What each calendar is turned into.
use Rattle.std.proofs.Common.{◌≡◌, ℕ, List, [], ◌∷◌, Some, None, refl, ap, ◌∙◌, sym, codes, option_and_then}
use Rattle.iloc_spec_grammar.specs.Syntax.{Text, Subtag, is_true, is_word, lower}
use Rattle.iloc_spec_grammar.specs.Values.{IsNormal}
use Rattle.iloc_spec_parts.specs.Keywords as keywords
use Rattle.iloc_spec_parts.specs.Keywords.{variants, hijri_kinds, enum_reads, enum_gives}
use Rattle.iloc_word_list.specs.Values.{without_true}
use Rattle.iloc_keyword_types.specs.WordTables.{word_at}
use Rattle.iloc_keyword_types.specs.declared.hijri.HijriCalendarAlgorithm.{HijriCalendarAlgorithm}
use Rattle.iloc_keyword_types.specs.declared.hijri.HijriCalendarAlgorithm.TheVariants.{Umalqura, Tbla, Civil, Rgsa}
use Rattle.iloc_keyword_types.specs.declared.calendar_algorithm.CalendarAlgorithm.{CalendarAlgorithm}
use Rattle.iloc_keyword_types.specs.declared.calendar_algorithm.CalendarAlgorithm.TheVariants.{Buddhist, Chinese, Coptic, Dangi, Ethioaa, Ethiopic, Gregory, Hebrew, Indian, Hijri, Iso8601, Japanese, Persian, Roc}
use Rattle.iloc_keyword_types.specs.Hijri.{kind_place}
use Rattle.iloc_keyword_types.specs.Calendars.{place, kind, value_of}

pub kind_normal : (k : HijriCalendarAlgorithm) → IsNormal Subtag (word_at hijri_kinds (kind_place k))
unfolding is_word lower
kind_normal Umalqura = (refl, refl)
kind_normal Tbla = (refl, refl)
kind_normal Civil = (refl, refl)
kind_normal Rgsa = (refl, refl)

of_number : (k : HijriCalendarAlgorithm) →
    enum_gives keywords.CalendarAlgorithm (9, Some (kind_place k))
    ≡ Some (codes "islamic" ∷ word_at hijri_kinds (kind_place k) ∷ [])
of_number Umalqura = refl
of_number Tbla = refl
of_number Civil = refl
of_number Rgsa = refl

-- what is known of a calendar: one of a kind stands at the place of Hijri calendars, one of no kind is turned
-- into its word, and what it is turned into reads as the calendar
record Known (c : CalendarAlgorithm) : Type 0 where
  pub of_kind : (n : ℕ) → Some n ≡ kind c → place c ≡ 9
  pub plain : kind c ≡ None →
      enum_gives keywords.CalendarAlgorithm (value_of c)
      ≡ Some (without_true (word_at (variants keywords.CalendarAlgorithm) (place c) ∷ []))
  pub back : option_and_then (enum_reads keywords.CalendarAlgorithm)
      (enum_gives keywords.CalendarAlgorithm (value_of c))
      ≡ Some (value_of c)

known : (c : CalendarAlgorithm) → Known c
unfolding is_true
known (Hijri None) = record { of_kind = λ n h. refl; plain = λ h. refl; back = refl }
known (Hijri (Some Umalqura)) = record { of_kind = λ n h. refl; plain = λ h. absurd (cc); back = refl }
known (Hijri (Some Tbla)) = record { of_kind = λ n h. refl; plain = λ h. absurd (cc); back = refl }
known (Hijri (Some Civil)) = record { of_kind = λ n h. refl; plain = λ h. absurd (cc); back = refl }
known (Hijri (Some Rgsa)) = record { of_kind = λ n h. refl; plain = λ h. absurd (cc); back = refl }
known Buddhist = record { of_kind = λ n h. absurd (cc); plain = λ h. refl; back = refl }
known Chinese = record { of_kind = λ n h. absurd (cc); plain = λ h. refl; back = refl }
known Coptic = record { of_kind = λ n h. absurd (cc); plain = λ h. refl; back = refl }
known Dangi = record { of_kind = λ n h. absurd (cc); plain = λ h. refl; back = refl }
known Ethioaa = record { of_kind = λ n h. absurd (cc); plain = λ h. refl; back = refl }
known Ethiopic = record { of_kind = λ n h. absurd (cc); plain = λ h. refl; back = refl }
known Gregory = record { of_kind = λ n h. absurd (cc); plain = λ h. refl; back = refl }
known Hebrew = record { of_kind = λ n h. absurd (cc); plain = λ h. refl; back = refl }
known Indian = record { of_kind = λ n h. absurd (cc); plain = λ h. refl; back = refl }
known Iso8601 = record { of_kind = λ n h. absurd (cc); plain = λ h. refl; back = refl }
known Japanese = record { of_kind = λ n h. absurd (cc); plain = λ h. refl; back = refl }
known Persian = record { of_kind = λ n h. absurd (cc); plain = λ h. refl; back = refl }
known Roc = record { of_kind = λ n h. absurd (cc); plain = λ h. refl; back = refl }

pub hijri_place : (c : CalendarAlgorithm) (n : ℕ) → Some n ≡ kind c → place c ≡ 9
hijri_place c = (known c).of_kind

pub given_plain : (c : CalendarAlgorithm) → kind c ≡ None →
    enum_gives keywords.CalendarAlgorithm (value_of c)
    ≡ Some (without_true (word_at (variants keywords.CalendarAlgorithm) (place c) ∷ []))
given_plain c = (known c).plain

pub given_kind : (c : CalendarAlgorithm) (k : HijriCalendarAlgorithm) → Some (kind_place k) ≡ kind c →
    enum_gives keywords.CalendarAlgorithm (value_of c)
    ≡ Some (codes "islamic" ∷ word_at hijri_kinds (kind_place k) ∷ [])
given_kind c k h =
    ap (enum_gives keywords.CalendarAlgorithm) (λ i. (hijri_place c (kind_place k) h i, sym h i))
    ∙ of_number k

pub reads_back : (c : CalendarAlgorithm) (v : List Text) →
    enum_gives keywords.CalendarAlgorithm (value_of c) ≡ Some v →
    enum_reads keywords.CalendarAlgorithm v ≡ Some (value_of c)
reads_back c v h = sym (ap (option_and_then (enum_reads keywords.CalendarAlgorithm)) h) ∙ (known c).back
