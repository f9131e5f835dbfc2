use Rattle.std.proofs.Common.{◌≡◌, [], ◌∷◌, sym, ap, ◌∙◌, refl, Some}
use Rattle.iloc_spec_grammar.specs.Syntax.{Text, Subtag}
use Rattle.iloc_spec_grammar.specs.Values.{IsNormal}
use Rattle.iloc_spec_parts.specs.Keywords as keywords
use Rattle.iloc_spec_parts.specs.Keywords.{variants, hijri_kinds}
use Rattle.iloc_word_list.specs.Values.{without_true}
use Rattle.iloc_keyword_types.specs.WordTables.{word_at}
use Rattle.iloc_keyword_types.proofs.EnumLemmas.{normal_word}
use Rattle.iloc_keyword_types.specs.declared.calendar_algorithm.CalendarAlgorithm.{CalendarAlgorithm}
use Rattle.iloc_keyword_types.specs.Calendars.{place}
use Rattle.iloc_keyword_types.specs.CalendarLaws.{placed_at}
use Rattle.iloc_keyword_types.specs.Hijri.{kind_place}
use Rattle.iloc_keyword_types.proofs.GivenLemmas.{reads_back, kind_normal, given_kind, given_plain, hijri_place}
use Rattle.iloc_keyword_types.proofs.calendar_algorithm.CalendarAlgorithm.value_in.Goals as goal

-- the word of a calendar is a subtag
calendar_normal : (calendar : CalendarAlgorithm)
    → IsNormal Subtag (word_at (variants keywords.CalendarAlgorithm) (place calendar))
calendar_normal calendar =
    normal_word keywords.CalendarAlgorithm (variants keywords.CalendarAlgorithm) refl (place calendar) _
    (placed_at calendar)

pub known_subtag-word-requires : goal.known_subtag-word-requires
known_subtag-word-requires g c = (_, calendar_normal c.args.self.now, c.word_number.ensures)

pub known_subtag-requires : goal.known_subtag-requires
known_subtag-requires g c = (_, kind_normal c.in-Some.kind, c.word_number-in-Some.ensures)

pub returns-in-None-clause-value : goal.returns-in-None-clause-value
returns-in-None-clause-value g c = (
  c.from_subtag.result,
  given_plain c.args.self.now (sym c.in-None.ensures)
      ∙ ap Some (sym (c.from_subtag.ensures
      ∙ ap (λ (w : Text). without_true (w ∷ []))
      (c.known_subtag-word.ensures _ (calendar_normal c.args.self.now) c.word_number.ensures))),
  refl,
)

pub returns-in-None-clause-back : goal.returns-in-None-clause-back
unfolding returns-in-None-clause-value
returns-in-None-clause-back g c =
    reads_back c.args.self.now c.from_subtag.result (returns-in-None-clause-value g c).1

pub returns-in-Some-clause-value : goal.returns-in-Some-clause-value
returns-in-Some-clause-value g c = (
  _,
  given_kind c.args.self.now c.in-Some.kind c.in-Some.ensures ∙ sym (λ i. Some (first i ∷ second i ∷ [])),
  c.from_two_subtags_in.ensures.value,
)
  where
    first : c.known_subtag-word.result ≡ word_at (variants keywords.CalendarAlgorithm) 9
    first = c.known_subtag-word.ensures _ (calendar_normal c.args.self.now) c.word_number.ensures
        ∙ ap (word_at (variants keywords.CalendarAlgorithm))
        (hijri_place c.args.self.now (kind_place c.in-Some.kind) c.in-Some.ensures)

    second : c.known_subtag.result ≡ word_at hijri_kinds (kind_place c.in-Some.kind)
    second = c.known_subtag.ensures _ (kind_normal c.in-Some.kind) c.word_number-in-Some.ensures

pub returns-in-Some-clause-back : goal.returns-in-Some-clause-back
returns-in-Some-clause-back g c =
    let given = returns-in-Some-clause-value g c in rw given.2 (reads_back c.args.self.now given.0 given.1)
