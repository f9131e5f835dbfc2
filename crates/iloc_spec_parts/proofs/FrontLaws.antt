-- The readers of what comes after `u`, after other singletons and after `x`.
use Rattle.std.proofs.Common.{◌≡◌, ◌↔◌, ℕ, ◌+◌, ◌<◌, ◌≤◌, true, false, not, ◌&&◌, ◌||◌, nat_lt, List, [], ◌∷◌, ◌++◌, length, map, refl, sym, ap, ap₂, ◌∙◌, subst, arith, true≢false, append_assoc, Result, Ok, Err}
use Rattle.std.specs.List.{AllByRecursion, list_any}
use Rattle.std.proofs.lemmas.Bool.{or_parts, or_cases, not-false, cond_both, false_from_ne_true, eqb-true, ne_eqb, ltb-true}
use Rattle.std.proofs.lemmas.List.{nil_from_length}
use Rattle.std.proofs.lemmas.Bool.Decides.{nat_tests}
use Rattle.iloc_spec_grammar.specs.Syntax.{Field, Text, UnicodeKey, Attribute, is_word, IsWord, lower, Fields, SpelledUnicode, Unicode, fields_pieces, unicode_pieces, IsKeyword, IsUnicode, IsOther, kept, front}
use Rattle.iloc_spec_grammar.specs.Tree.{IsUnicodeBlock}
use Rattle.iloc_spec_grammar.specs.Meaning.{set_of, normal_fields, normal_unicode, Fault, InvalidExtension}
use Rattle.iloc_spec_grammar.specs.ByBlocks.{UnicodeMeans, OtherMeans}
use Rattle.iloc_spec_grammar.specs.Reading.{EndsBefore, starts_block, from_block, is_two, fields_from}
use Rattle.iloc_spec_grammar.proofs.WordsLaws.{length-attribute, length-unicode_key}
use Rattle.iloc_spec_grammar.proofs.ValuesLaws.{all_weaker}
use Rattle.iloc_spec_grammar.proofs.ReadBack.{all_append}
use Rattle.iloc_spec_grammar.proofs.Readings.{IsLong, long_attribute, long_between, keywords_pass, not_two, two as two_bytes_of, fields_read}
use Rattle.iloc_spec_grammar.proofs.ReadingLaws.{front-from_block, from_block_starts, all_while}
use Rattle.iloc_spec_grammar.specs.Computing.{is_other, is_private}
use Rattle.iloc_spec_grammar.proofs.RuleTests.{tests_other, tests_not}
use Rattle.iloc_spec_grammar.proofs.RuleTests as rules
use Rattle.iloc_spec_parts.specs.Readers.{IsReader, AgreesWithBlocks}
use Rattle.iloc_spec_parts.specs.Fronts.{attributes_front, after_attributes, is_keyword_piece, keywords_front, after_keywords, is_bad_key, KeywordsRead, KeywordsFault, bad_key, UnicodeRead, UnicodeFault, in_keywords, both_absent, has_other_length, other_front, OtherRead, OtherFault, no_word, PrivateRead, PrivateFault, not_private, keywords_result, attributes_and, unicode_result, other_result, private_result}
use Rattle.iloc_spec_parts.proofs.FieldLaws.{passing_all, passing_stops, past_stops, all_from_pieces, passing_from_all, front_of_fields, fields_words, fields_stop, pieces_pass}
use Rattle.iloc_spec_parts.proofs.ReaderLaws.{reader_of, agreeing, until_block, Answer, Answers}
use Rattle.std.proofs.Math.Bool.{or-true, and-false}

-- keywords

one_keywords : (ps : List Text) (v w : Fields) (rest more : List Text) → KeywordsRead ps v rest →
    KeywordsRead ps w more → (v ≡ w) × (rest ≡ more)
one_keywords ps v w rest more a b =
    let same : a.written ≡ b.written = sym (search (fields_read, keywords_pass))
    ∙ ap (fields_from is_two) (sym a.spelled ∙ b.spelled)
    ∙ fields_read is_two b.written (keywords_pass b.written b.keywords) in
    search

good_pieces : (ps : List Text) → AllByRecursion (λ p. is_keyword_piece p ≡ true) ps →
    list_any is_bad_key ps ≡ false →
    AllByRecursion (λ p. (is_two p ≡ true → IsWord UnicodeKey p) × (is_two p ≡ false → IsWord Attribute p)) ps
good_pieces [] h n = tt
good_pieces (p ∷ ps) h n = grind (
  arith,
  or_parts,
  not-false,
  good_pieces ps h.1 (or_parts (is_bad_key p) (list_any is_bad_key ps) n).1,
)

pub good_key : (p : Text) → IsWord UnicodeKey p → is_bad_key p ≡ false
good_key p h = ap (λ b. is_two p && not b) h ∙ and-false (is_two p)

pub good_value : (p : Text) → IsWord Attribute p → is_bad_key p ≡ false
good_value p h = ap (λ b. b && not (is_word UnicodeKey p)) (not_two p h)

keywords_no_fault : (fs : Fields) → AllByRecursion IsKeyword fs →
    list_any is_bad_key (fields_pieces fs) ≡ false
keywords_no_fault [] h = refl
keywords_no_fault (f ∷ fs) h = none_bad (f.0 ∷ f.1) (fields_pieces fs)
    (grind (arith, good_key, all_weaker, good_value))
    (keywords_no_fault fs h.1)
  where
    none_bad : (xs ys : List Text) → AllByRecursion (λ p. is_bad_key p ≡ false) xs →
        list_any is_bad_key ys ≡ false → list_any is_bad_key (xs ++ ys) ≡ false
    none_bad [] ys h n = n
    none_bad (x ∷ xs) ys h n = ap₂ ◌||◌ h.0 (none_bad xs ys h.1 n)

pub keywords_read_of : (ps : List Text) → list_any is_bad_key (keywords_front ps) ≡ false →
    KeywordsRead ps (normal_fields (fields_from is_two (keywords_front ps))) (after_keywords ps)
keywords_read_of ps e = record {
  written = fields_from is_two (keywords_front ps);
  keywords = (fields_words is_two (IsWord UnicodeKey) (IsWord Attribute) (keywords_front ps)
      (good_pieces _ (passing_from_all is_two is_keyword_piece ps) e)).1;
  spelled = front_of_fields is_two is_keyword_piece ps;
  means = refl;
  left = refl;
}

pub keywords_answer : Answers KeywordsRead KeywordsFault keywords_result
keywords_answer ps = cond_both (list_any is_bad_key (keywords_front ps)) _ _
    (Answer KeywordsRead KeywordsFault ps) (λ b. bad_key b) (λ g. keywords_read_of ps g)

keywords_apart : (ps : List Text) (m : Fields) (rest : List Text) (f : Fault) →
    KeywordsRead ps m rest → KeywordsFault ps f → ⊥
keywords_apart ps m rest f h (bad_key b) = grind (arith, true≢false, keywords_no_fault)

keywords_fault : {ps : List Text} {f : Fault} → KeywordsFault ps f → f ≡ InvalidExtension
keywords_fault (bad_key b) = refl

pub keywords_reader : IsReader KeywordsRead KeywordsFault
keywords_reader = reader_of KeywordsRead KeywordsFault keywords_result keywords_answer one_keywords
    keywords_apart (λ ps f g x y. keywords_fault x ∙ sym (keywords_fault y))

-- all that comes after `u`

one_unicode : (ps : List Text) (v w : Unicode) (rest more : List Text) → UnicodeRead ps v rest →
    UnicodeRead ps w more → (v ≡ w) × (rest ≡ more)
one_unicode ps v w rest more a b =
    let k =
    one_keywords (after_attributes ps) v.keywords w.keywords rest more a.keywords_are b.keywords_are in
    grind arith

none_of : (xs ys : List Text) → nat_lt 0 (length xs + length ys) ≡ false → (xs ≡ []) × (ys ≡ [])
none_of xs ys h = grind (arith, nat_tests, nil_from_length)

pub unicode_answer : Answers UnicodeRead UnicodeFault unicode_result
unfolding unicode_result
unicode_answer ps =
    at_keywords (keywords_result (after_attributes ps)) (keywords_answer (after_attributes ps))
  where
    at_keywords : (o : Result (Fields × List Text) Fault) →
        Answer KeywordsRead KeywordsFault (after_attributes ps) o →
        Answer UnicodeRead UnicodeFault ps (attributes_and ps o)
    at_keywords (Err f) h = in_keywords h
    at_keywords (Ok r) h =
        cond_both (nat_lt 0 (length (attributes_front ps) + length (keywords_front (after_attributes ps)))) _
        _ (Answer UnicodeRead UnicodeFault ps)
        (λ n. record { attributes_are = refl; keywords_are = h; nonempty = ltb-true 0 _ n })
        (λ n. let none = none_of (attributes_front ps) (keywords_front (after_attributes ps)) n in
        both_absent none.0 none.1)

unicode_apart : (ps : List Text) (u : Unicode) (rest : List Text) (f : Fault) →
    UnicodeRead ps u rest → UnicodeFault ps f → ⊥
unicode_apart ps u rest f h (in_keywords k) = search keywords_apart
unicode_apart ps u rest f h (both_absent a k) = grind arith

unicode_fault : {ps : List Text} {f : Fault} → UnicodeFault ps f → f ≡ InvalidExtension
unicode_fault (in_keywords h) = keywords_fault h
unicode_fault (both_absent a k) = refl

pub unicode_reader : IsReader UnicodeRead UnicodeFault
unicode_reader = reader_of UnicodeRead UnicodeFault unicode_result unicode_answer one_unicode unicode_apart
    (λ ps f g x y. unicode_fault x ∙ sym (unicode_fault y))

-- and its block

long_keyword_piece : (p : Text) → is_keyword_piece p ≡ true → IsLong p
long_keyword_piece p h = grind (arith, or_cases, eqb-true, ne_eqb, long_attribute)

-- each field is a piece at least
some_pieces : (n : ℕ) (fs : Fields) → (0 < n + length (fields_pieces fs)) ↔ (0 < n + length fs)
some_pieces n [] = (λ h. h, λ h. h)
some_pieces n (f ∷ fs) = (λ h. omega arith, λ h. omega arith)

unicode_whole : (ps : List Text) (u : Unicode) (rest : List Text) → UnicodeRead ps u rest →
    starts_block rest ≡ true → UnicodeMeans (front ps) u × (rest ≡ from_block ps)
unicode_whole ps u rest h s =
    let k = h.keywords_are in
    let a = attributes_front ps in
    let front_pieces = keywords_front (after_attributes ps) in
    let all : ps ≡ (a ++ front_pieces) ++ rest =
    grind (arith, append_assoc, all_from_pieces, all_while) in
    let long = all_append IsLong a front_pieces
    (grind (arith, all_weaker, IsLong, long_attribute, passing_all))
    (all_weaker (λ p. is_keyword_piece p ≡ true) IsLong long_keyword_piece front_pieces
    (search passing_from_all)) in
    let ends = until_block (a ++ front_pieces) rest long s in (
      record {
        written = record { attributes = a; keywords = k.written };
        grammatical = record {
          attributes = passing_all (is_word Attribute) ps;
          keywords = k.keywords;
          nonempty = (some_pieces (length a) k.written).0
              (rw k.spelled at h.nonempty);
        };
        spelled = ap front all ∙ ends.0 ∙ ap (λ l. a ++ l) k.spelled;
        means = grind arith;
      },
      sym (ap from_block all ∙ ends.1),
    )

pub not_attribute : (p : Text) → length p ≤ 2 → is_word Attribute p ≡ false
not_attribute p h = grind (arith, false_from_ne_true, length-attribute)

-- what may follow a block goes on with none of its parts
pub record NoneGoOn (rest : List Text) : Type 0 where
  pub attribute : EndsBefore (is_word Attribute) rest
  pub keyword_piece : EndsBefore is_keyword_piece rest
  pub two_bytes : EndsBefore is_two rest

pub block_ends : (rest : List Text) → starts_block rest ≡ true → NoneGoOn rest
block_ends [] e = grind arith
block_ends (p ∷ ps) e = grind (arith, eqb-true, not_attribute)

pub value_goes_on : (p : Text) → IsWord Attribute p → is_keyword_piece p ≡ true
value_goes_on p w = ap (λ b. is_two p || b) w ∙ or-true (is_two p)

keyword_goes_on : (f : Field) → IsKeyword f →
    (is_keyword_piece f.0 ≡ true) × AllByRecursion (λ p. is_keyword_piece p ≡ true) f.1
keyword_goes_on f r = search (two_bytes_of, all_weaker, value_goes_on)

-- what is taken of spelled attributes and keywords
pub record Taken (w : SpelledUnicode) (rest : List Text) : Type 0 where
  pub attributes : attributes_front (unicode_pieces w ++ rest) ≡ w.attributes
  pub after : after_attributes (unicode_pieces w ++ rest) ≡ fields_pieces w.keywords ++ rest
  pub keywords : keywords_front (fields_pieces w.keywords ++ rest) ≡ fields_pieces w.keywords
  pub left : after_keywords (fields_pieces w.keywords ++ rest) ≡ rest

pub unicode_taken : (w : SpelledUnicode) (rest : List Text) → IsUnicode w → starts_block rest ≡ true →
    Taken w rest
unicode_taken w rest g e = record {
  attributes = ap attributes_front all
      ∙ passing_stops (is_word Attribute) w.attributes (fields_pieces w.keywords ++ rest) g.attributes
      (stops w.keywords g.keywords);
  after = ap after_attributes all
      ∙ past_stops (is_word Attribute) w.attributes (fields_pieces w.keywords ++ rest) g.attributes
      (stops w.keywords g.keywords);
  keywords = stop.0;
  left = stop.1;
}
  where
    all : unicode_pieces w ++ rest ≡ w.attributes ++ (fields_pieces w.keywords ++ rest)
    all = append_assoc w.attributes (fields_pieces w.keywords) rest

    none : NoneGoOn rest
    none = block_ends rest e

    stops : (fs : Fields) → AllByRecursion IsKeyword fs →
        EndsBefore (is_word Attribute) (fields_pieces fs ++ rest)
    stops [] k = none.attribute
    stops (f ∷ fs) k = not_attribute f.0 (let l = length-unicode_key f.0 k.0.0 in omega arith)

    stop : (keywords_front (fields_pieces w.keywords ++ rest) ≡ fields_pieces w.keywords)
        × (after_keywords (fields_pieces w.keywords ++ rest) ≡ rest)
    stop = fields_stop is_two is_keyword_piece w.keywords rest
        (pieces_pass is_keyword_piece w.keywords (all_weaker IsKeyword
        (λ f. (is_keyword_piece f.0 ≡ true) × AllByRecursion (λ p. is_keyword_piece p ≡ true) f.1)
        keyword_goes_on w.keywords g.keywords))
        (all_weaker IsKeyword (λ f. is_two f.0 ≡ true) (λ f r. two_bytes_of f.0 r.0) w.keywords g.keywords)
        none.keyword_piece none.two_bytes refl

-- the keywords are those that were spelled
pub keywords_taken : (w : SpelledUnicode) (rest : List Text) → IsUnicode w → starts_block rest ≡ true →
    fields_from is_two (keywords_front (after_attributes (unicode_pieces w ++ rest))) ≡ w.keywords
keywords_taken w rest g e = let t = unicode_taken w rest g e in grind (arith, fields_read, keywords_pass)

unicode_spelled : (w : SpelledUnicode) (rest : List Text) → IsUnicodeBlock w → starts_block rest ≡ true →
    UnicodeRead (unicode_pieces w ++ rest) (normal_unicode w) rest
unicode_spelled w rest g e =
    let t = unicode_taken w rest (record { attributes = g.attributes; keywords = g.keywords }) e in
    record {
      attributes_are = ap (λ l. set_of (map lower l)) (sym t.attributes);
      keywords_are = rw t.after (grind arith);
      nonempty = rw (sym ((λ i. length (t.attributes i) + length (keywords_front (t.after i)))
          ∙ ap (λ l. length w.attributes + length l) t.keywords))
          at ((some_pieces (length w.attributes) w.keywords).1 g.nonempty);
    }

unicode_block : (ps : List Text) (u : Unicode) → UnicodeMeans (front ps) u →
    UnicodeRead ps u (from_block ps)
unicode_block ps u h =
    let pieces_are : unicode_pieces h.written ++ from_block ps ≡ ps =
    grind (arith, front-from_block) in
    subst (λ (v : Unicode). UnicodeRead ps v (from_block ps)) (sym h.means)
    (rw pieces_are at (unicode_spelled h.written (from_block ps) h.grammatical (from_block_starts ps)))

pub unicode_agrees : AgreesWithBlocks UnicodeRead UnicodeFault UnicodeMeans
unicode_agrees = search (agreeing, unicode_reader, unicode_whole, unicode_block)

-- after other singletons

pub other_answer : Answers OtherRead OtherFault other_result
unfolding other_result
other_answer ps = cond_both (is_other (other_front ps)) _ _ (Answer OtherRead OtherFault ps)
    (λ h. record { follows = (tests_other (other_front ps)).holds h; means = refl; left = refl })
    (λ n. no_word (tests_not (tests_other (other_front ps)) n))

other_apart : (ps ws rest : List Text) (f : Fault) → OtherRead ps ws rest → OtherFault ps f → ⊥
other_apart ps ws rest f h (no_word n) = n h.follows

one_other_fault : (ps : List Text) (f g : Fault) → OtherFault ps f → OtherFault ps g → f ≡ g
one_other_fault ps f g (no_word n) (no_word m) = refl

pub other_reader : IsReader OtherRead OtherFault
other_reader =
    reader_of OtherRead OtherFault other_result other_answer (grind arith) other_apart one_other_fault

other_whole : (ps ws rest : List Text) → OtherRead ps ws rest → starts_block rest ≡ true →
    OtherMeans (front ps) ws × (rest ≡ from_block ps)
other_whole ps ws rest h s =
    let all : ps ≡ other_front ps ++ rest =
    grind (arith, all_while) in
    let ends = until_block (other_front ps) rest
    (search (all_weaker, long_between)) s in
    grind arith

other_block : (ps ws : List Text) → OtherMeans (front ps) ws → OtherRead ps ws (from_block ps)
other_block ps ws h =
    subst (λ (l : List Text). OtherRead l ws (from_block ps)) (front-from_block ps) (record {
      follows = subst IsOther (sym front_is) h.0;
      means = h.1 ∙ ap kept (sym front_is);
      left = sym (past_stops has_other_length (front ps) (from_block ps) h.0.lengths ends);
    })
  where
    stops : (rest : List Text) → starts_block rest ≡ true → EndsBefore has_other_length rest
    stops [] e = tt
    stops (p ∷ ps) e = rw (eqb-true (length p) 1 e) refl

    ends : EndsBefore has_other_length (from_block ps)
    ends = stops (from_block ps) (from_block_starts ps)

    front_is : other_front (front ps ++ from_block ps) ≡ front ps
    front_is = passing_stops has_other_length (front ps) (from_block ps) h.0.lengths ends

pub other_agrees : AgreesWithBlocks OtherRead OtherFault OtherMeans
other_agrees = agreeing OtherRead OtherFault OtherMeans other_reader other_whole other_block

-- private words

pub private_answer : Answers PrivateRead PrivateFault private_result
unfolding private_result
private_answer ps = cond_both (is_private ps) _ _ (Answer PrivateRead PrivateFault ps)
    (λ h. record { follows = (rules.tests_private ps).holds h; means = refl; left = refl })
    (λ n. not_private (tests_not (rules.tests_private ps) n))

private_apart : (ps ws rest : List Text) (f : Fault) → PrivateRead ps ws rest → PrivateFault ps f → ⊥
private_apart ps ws rest f h (not_private n) = n h.follows

one_private_fault : (ps : List Text) (f g : Fault) → PrivateFault ps f → PrivateFault ps g → f ≡ g
one_private_fault ps f g (not_private n) (not_private m) = refl

pub private_reader : IsReader PrivateRead PrivateFault
private_reader = reader_of PrivateRead PrivateFault private_result private_answer
    (grind arith) private_apart one_private_fault
