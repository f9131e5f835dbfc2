-- Lines that are refused for what stands at their front.
use Rattle.std.proofs.Common.{arith, ◌≡◌, ◌≢◌, ◌⊎◌, ◌↔◌, IsTrue, inl, inr, ℕ, ◌==◌, Bool, true, false, cond, ◌&&◌, List, [], ◌∷◌, ◌++◌, get_or, Some, Ok, Err, MatchResult, refl, sym, ap, ◌∙◌, subst}
use Rattle.std.specs.Prelude.{if◌then◌else◌}
use Rattle.std.specs.Char.{is_ascii_alphanumeric, to_ascii_lowercase}
use Rattle.std.proofs.lemmas.Bool.{cases_Bool, true≢false, false_from_ne_true}
use Rattle.iloc_spec_grammar.specs.Syntax.{code_x, Text, pieces, Language, is_word, IsWord, languages, front, blocks, head, tail_blocks, first_piece}
use Rattle.iloc_spec_grammar.specs.Reading.{rest_of, from_block, starts_block, front_of, after_front, after_region}
use Rattle.iloc_spec_grammar.specs.Meaning.{Fault, SpellsIdentifier, not_a_language, not_an_identifier, in_head}
use Rattle.iloc_spec_grammar.specs.Meaning as faults
use Rattle.iloc_spec_grammar.proofs.PiecesLaws.{at_pieces, pieces_nonempty}
use Rattle.iloc_spec_grammar.proofs.RawLaws.{languages_table}
use Rattle.iloc_spec_grammar.proofs.Readings.{after_language, long_after_language, blocks_past}
use Rattle.iloc_spec_grammar.proofs.ReadingLaws.{pieces-front_of, front_words, after_front-pieces, starts_ends, front-from_block, from_block_starts, refuses_more}
use Rattle.iloc_spec_parts.specs.Small.{SmallIdentifier}
use Rattle.iloc_spec_parts.specs.Small as small
use Rattle.iloc_spec_parts.specs.SmallComputing.{small_identifier_result, is_u, is_small_block, has_small_keyword, block_fault, keyword_read, blocks_result, after_identifier, small_result}
use Rattle.iloc_spec_parts.specs.DataLocales.{DataLocale, DataMeans, HasDataFault, not_small}
use Rattle.iloc_spec_parts.proofs.DataLaws.{data_answer}
use Rattle.iloc_spec_parts.specs.DataComputing.{data_result}
use Rattle.iloc_subtags.specs.declared.parse_error.ParseError.TheVariants.{InvalidLanguage, InvalidSubtag}
use Rattle.iloc_pieces.specs.Front.{GoesOn, IsFound, HasNoLanguage}
use Rattle.iloc_pieces.specs.Window.{text_in}
use Rattle.iloc_pieces.specs.declared.window.Window.{Window}
use Rattle.iloc_outline.specs.Outlines.{BeginsWithLanguage}
use Rattle.iloc_normalize.specs.Answered.{HasRefusal}
use Rattle.iloc_normalize.specs.declared.Mode.{Mode}
use Rattle.iloc_normalize.specs.declared.Mode.TheVariants.{Langid, Locale, Data}

-- a language comes first
abbrev pub BeginsWell : Text → Type 0
BeginsWell t = IsWord (Language languages) (first_piece (pieces t))

-- what is left after the words that fit is more than nothing
langid_refused : (t : Text) → BeginsWell t → after_front (pieces t) ≢ [] → HasRefusal Langid t InvalidSubtag
langid_refused t l more =
    not_an_identifier l (λ s. more (ap after_front s.2 ∙ after_front-pieces s.0 s.1.words))

same_first : (ps : List Text) → first_piece ps ≡ first_piece (head ps)
same_first [] = refl
same_first (p ∷ ps) = refl

-- the head begins with a language where the text does
pub head_language : (t : Text) →
    is_word (Language languages) (first_piece (head (pieces t)))
    ≡ is_word (Language languages) (first_piece (pieces t))
head_language t = sym (ap (is_word (Language languages)) (same_first (pieces t)))

-- ---- no language

pub no_language_refused : (mode : Mode) (t : Text) → HasNoLanguage t →
    HasRefusal mode t InvalidLanguage
no_language_refused Langid t h = not_a_language h
no_language_refused Locale t h = in_head (not_a_language (head_language t ∙ h))
no_language_refused Data t h = not_small (small.bad_head (small.no_language (head_language t ∙ h)))

-- a text that does not begin with a language is refused so
pub unbegun_refused : (mode : Mode) (t : Text) (begins : Bool) → IsTrue begins ↔ BeginsWithLanguage t →
    begins ≡ false → HasRefusal mode t InvalidLanguage
unbegun_refused mode t begins is none =
    no_language_refused mode t (false_from_ne_true _ (λ e. true≢false (sym (is.1 e) ∙ none)))

-- ---- a piece that fits nowhere

-- the head is no identifier where a piece is left that begins no block
no_head : (t : Text) → starts_block (after_front (pieces t)) ≡ false →
    ¬ (SpellsIdentifier languages (head (pieces t)))
no_head t =
    at_pieces (λ ps. starts_block (after_front ps) ≡ false → ¬ (SpellsIdentifier languages (head ps))) by t
  where
    by : (p : Text) (ps : List Text) → starts_block (after_front (p ∷ ps)) ≡ false →
        ¬ (SpellsIdentifier languages (p ∷ front ps))
    by p ps none =
        let whole : front ps ++ from_block ps ≡ ps = front-from_block ps in
        refuses_more languages p (front ps) (from_block ps)
        (starts_ends (from_block ps) (from_block_starts ps))
        (λ e. true≢false
        (sym (from_block_starts ps) ∙ ap starts_block (sym e ∙ ap (λ l. after_front (p ∷ l)) whole) ∙ none))

pub misfit_refused : (mode : Mode) (t : Text) → BeginsWell t →
    starts_block (after_front (pieces t)) ≡ false → HasRefusal mode t InvalidSubtag
misfit_refused Langid t l none = langid_refused t l (λ e. true≢false (sym (ap starts_block e) ∙ none))
misfit_refused Locale t l none = in_head (not_an_identifier (head_language t ∙ l) (no_head t none))
misfit_refused Data t l none =
    not_small (small.bad_head
    (small.no_identifier (head_language t ∙ l) (λ r s. no_head t none (s.written, s.grammatical, s.spelled))))

-- ---- a block

pub block_is_no_identifier : (t : Text) (b : Window) → BeginsWell t →
    after_front (pieces t) ≡ pieces (text_in b) → HasRefusal Langid t InvalidSubtag
block_is_no_identifier t b l rest = langid_refused t l (λ e. pieces_nonempty (text_in b) (sym rest ∙ e))

-- the blocks are those of what is left after the words that fit
pub blocks_left : (t : Text) → BeginsWell t → tail_blocks (pieces t) ≡ blocks (after_front (pieces t))
blocks_left t = at_pieces
    (λ ps. IsWord (Language languages) (first_piece ps) → tail_blocks ps ≡ blocks (after_front ps)) by t
  where
    by : (p : Text) (ps : List Text) → IsWord (Language languages) p →
        blocks ps ≡ blocks (after_front (p ∷ ps))
    by p ps l =
        let i = front_of (p ∷ ps) in
        sym (ap (λ qs. blocks (rest_of qs)) (pieces-front_of p ps))
        ∙ blocks_past (after_language i) (after_front (p ∷ ps))
        (long_after_language i (front_words (p ∷ ps) l))

-- the first block has the singleton that comes first
pub first_block : (c : ℕ) (ps : List Text) →
    (qs : List Text) × (bs : List (ℕ × List Text)) × (blocks ((c ∷ []) ∷ ps) ≡ (c, qs) ∷ bs)
first_block c ps = elim (cases_Bool (to_ascii_lowercase c == code_x)) [
  | inl is_x ↦ (ps, [], ap (λ (b : Bool). cond b ((c, ps) ∷ []) ((c, front ps) ∷ blocks ps)) is_x)
  | inr other ↦
      (front ps, blocks ps, ap (λ (b : Bool). cond b ((c, ps) ∷ []) ((c, front ps) ∷ blocks ps)) other)
]

-- ---- data locales

-- a head that begins with a language is small, or else refused so
small_head : (p : Text) (ps : List Text) → IsWord (Language languages) p
    → (small_identifier_result languages (p ∷ ps) ≡ Err faults.InvalidSubtag)
    ⊎ ((r : SmallIdentifier) × (small_identifier_result languages (p ∷ ps) ≡ Ok r))
unfolding small_identifier_result
small_head p ps l = grind arith

-- the first block decides, if it isn't that of a small locale
small_refused : (t : Text) (b : ℕ × List Text) (bs : List (ℕ × List Text)) → BeginsWell t →
    tail_blocks (pieces t) ≡ b ∷ bs
    → is_small_block b bs ≡ false → block_fault b ≡ faults.InvalidSubtag →
    small_result languages t ≡ Err faults.InvalidSubtag
unfolding small_result after_identifier blocks_result
small_refused t b bs l e other fault = at_pieces Refused by t l e
  where
    Refused : List Text → Type 0
    Refused ps = IsWord (Language languages) (first_piece ps) → tail_blocks ps ≡ b ∷ bs
        → after_identifier (small_identifier_result languages (head ps)) (tail_blocks ps)
        ≡ Err faults.InvalidSubtag

    by : (p : Text) (ps : List Text) → Refused (p ∷ ps)
    by p ps l e = elim (small_head p (front ps) l) [
      | inl bad ↦ ap (λ r. after_identifier r (blocks ps)) bad
      | inr good ↦
          (λ j. after_identifier (good.1 j) (e j))
          ∙ (λ j.
          if other j then Ok (record { id = good.0; keyword = Some (keyword_read b.1) }) else Err (fault j))
    ]

-- what is computed of a data locale is its fault
pub data_fault : (t : Text) (f : Fault) → data_result languages t ≡ Err f → HasDataFault languages t f
data_fault t f e = subst (λ r. MatchResult r (DataMeans languages t) (HasDataFault languages t)) e
    (data_answer languages_table t)

-- what is computed of it is what it means
pub data_meant : (t : Text) (d : DataLocale) → data_result languages t ≡ Ok d → DataMeans languages t d
data_meant t d e = subst (λ r. MatchResult r (DataMeans languages t) (HasDataFault languages t)) e
    (data_answer languages_table t)

pub data_refused : (t : Text) (b : ℕ × List Text) (bs : List (ℕ × List Text)) → BeginsWell t →
    tail_blocks (pieces t) ≡ b ∷ bs
    → is_small_block b bs ≡ false → block_fault b ≡ faults.InvalidSubtag → HasRefusal Data t InvalidSubtag
unfolding data_result
data_refused t b bs l e other fault = grind (arith, data_fault, small_refused)

pub no_u : (b : ℕ × List Text) (bs : List (ℕ × List Text)) → is_u b.0 ≡ false →
    is_small_block b bs ≡ false
no_u b [] e = ap (λ (u : Bool). u && has_small_keyword b.1) e
no_u b (d ∷ bs) e = refl

pub other_fault : (b : ℕ × List Text) → is_ascii_alphanumeric b.0 ≡ true → is_u b.0 ≡ false →
    block_fault b ≡ faults.InvalidSubtag
unfolding block_fault
other_fault b letter e = rw (letter, e) refl

-- the blocks of the text begin with the one that was found
pub block_found : (t : Text) (b : Window) → BeginsWell t → GoesOn (after_region (pieces t)) b
    → (qs : List Text) × (bs : List (ℕ × List Text))
    × (tail_blocks (pieces t) ≡ (get_or b.bytes.now 0 0, qs) ∷ bs)
unfolding after_front
block_found t b l g = at_rest g.singleton
  where
    Answered : List Text → Type 0
    Answered rs = (qs : List Text) × (bs : List (ℕ × List Text))
        × (blocks rs ≡ (get_or b.bytes.now 0 0, qs) ∷ bs)

    found : Answered (pieces (text_in b))
    found = at_pieces (λ rs. first_piece rs ≡ get_or b.bytes.now 0 0 ∷ [] → Answered rs)
        (λ p rs e.
        let f = first_block (get_or b.bytes.now 0 0) rs in (f.0, f.1, ap (λ q. blocks (q ∷ rs)) e ∙ f.2))
        (text_in b) g.singleton

    at_rest : first_piece (pieces (text_in b)) ≡ get_or b.bytes.now 0 0 ∷ []
        → (qs : List Text) × (bs : List (ℕ × List Text))
        × (tail_blocks (pieces t) ≡ (get_or b.bytes.now 0 0, qs) ∷ bs)
    at_rest e = (found.0, found.1, blocks_left t l ∙ ap blocks g.rest ∙ found.2)

-- no other block than that of `u` is a data locale's
pub other_block_refused : (t : Text) (b : Window) → BeginsWell t → GoesOn (after_region (pieces t)) b
    → is_ascii_alphanumeric (get_or b.bytes.now 0 0) ≡ true → is_u (get_or b.bytes.now 0 0) ≡ false →
    HasRefusal Data t InvalidSubtag
other_block_refused t b l g letter other =
    let found = block_found t b l g in search (data_refused, no_u, other_fault)

-- a piece of one byte after a language: it is that of a block, or comes after a piece that fits nowhere
pub found_is_refused : (t : Text) (b : Window) → IsFound t b → HasRefusal Langid t InvalidSubtag
unfolding after_front
found_is_refused t b f = elim (cases_Bool (starts_block (after_front (pieces t)))) [
  | inl is ↦ block_is_no_identifier t b f.begins (f.next is)
  | inr other ↦ misfit_refused Langid t f.begins other
]
