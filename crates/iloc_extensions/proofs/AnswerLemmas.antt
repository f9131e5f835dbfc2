-- From what a block's reader answers to the answer of the whole.
use Rattle.std.proofs.Common.{◌≡◌, OnOk, IfErr, ℕ, ◌≤◌, Bool, true, false, ◌||◌, ◌==◌, List, [], ◌∷◌, length, refl, sym, ap, ◌∙◌, subst, arith, Some, None, Result, Ok, Err, true≢false, nat_lt, Option, option_map, not, is_some, ◌&&◌}
use Rattle.std.specs.Result.{result_and}
use Rattle.std.specs.List.{AllByRecursion, list_any}
use Rattle.std.specs.Char.{is_ascii_alphanumeric, to_ascii_lowercase}
use Rattle.std.specs.Ordering.{nat_cmp}
use Rattle.std.specs.FinMap.{put}
use Rattle.std.proofs.lemmas.Bool.Decides.{nat_tests}
use Rattle.iloc_spec_grammar.specs.Syntax.{code_x, code_u, code_t, Text, languages, IsOther, is_other_singleton, kept, is_one_byte, front, blocks}
use Rattle.iloc_spec_grammar.specs.Syntax as written
use Rattle.iloc_spec_grammar.specs.Meaning.{Extensions, no_extensions, BlocksMean, HasBlockFault, normal_values}
use Rattle.iloc_spec_grammar.specs.Meaning as faults
use Rattle.iloc_subtags.specs.NextPiece.{byte_at}
use Rattle.iloc_subtags.proofs.ByteLemmas.{byte_first, no_byte}
use Rattle.iloc_extensions.specs.Whole.{BlocksReads}
use Rattle.iloc_extensions.proofs.DoneLaws.{turned_means}
use Rattle.iloc_spec_grammar.specs.Reading.{from_block, starts_block, rest_of}
use Rattle.iloc_spec_parts.specs.Fronts.{not_private}
use Rattle.iloc_spec_parts.specs.Inline.{IsShortUnicode, IsShortTransform}
use Rattle.iloc_spec_parts.proofs.ShortFronts.{fronts_are_short}
use Rattle.iloc_spec_grammar.proofs.RawLaws.{languages_table}
use Rattle.iloc_subtags.specs.declared.parse_error.ParseError.{ParseError}
use Rattle.iloc_subtags.specs.declared.parse_error.ParseError.TheVariants.{InvalidLanguage, InvalidSubtag, InvalidExtension, DuplicatedExtension, OutOfMemory}
use Rattle.iloc_unicode.specs.declared.unicode.Unicode.{Unicode}
use Rattle.iloc_unicode.specs.Reads.{second_key, fifth_value, has_many_values}
use Rattle.iloc_unicode.specs.UnicodeReads.{UnicodeWantsMemory, fifth_attribute, for_keywords}
use Rattle.iloc_unicode.specs.UnicodeValue as unicode
use Rattle.iloc_transform.specs.declared.transform.Transform.{Transform}
use Rattle.iloc_transform.specs.TransformReading as transform
use Rattle.iloc_other.specs.Reading.{PrivateFills}
use Rattle.iloc_extensions.specs.Blocks.{BlocksDone, BlockAt, BlockReads, is_read}
use Rattle.iloc_extensions.proofs.PartAnswers.{UnicodeBlock, TransformBlock, OtherBlock}
use Rattle.iloc_extensions.proofs.FaultNames.{private_names}
use Rattle.iloc_extensions.proofs.RoundLaws.{no_letter, met_before, unicode_done, unicode_bad, unicode_long, transform_done, transform_repeats, transform_bad, transform_long, other_done, other_bad, other_long, private_done, private_bad, private_long}
use Rattle.std.proofs.lemmas.Bool.{not-false}

-- few words want no memory

no_many : (fs : written.Fields) → AllByRecursion (λ f. length (normal_values f.1) ≤ 4) fs →
    list_any has_many_values fs ≡ true → ⊥
no_many [] a h = true≢false (sym h)
no_many (f ∷ fs) a h = at (has_many_values f) refl (no_many fs a.1) h
  where
    few : (n : ℕ) → n ≤ 4 → nat_lt 4 n ≡ true → ⊥
    few n l t = grind (arith, nat_tests)

    at : (b : Bool) → has_many_values f ≡ b → (list_any has_many_values fs ≡ true → ⊥) →
        (b || list_any has_many_values fs) ≡ true → ⊥
    at true e more k = few (length (normal_values f.1)) a.0 e
    at false e more k = more k

short_unicode : (ps : List Text) → IsShortUnicode ps → UnicodeWantsMemory ps → ⊥
short_unicode ps s (fifth_attribute h) = grind arith
short_unicode ps s (for_keywords (second_key h)) = let a = s.keys in omega (arith, a, h)
short_unicode ps s (for_keywords (fifth_value h)) = no_many _ s.values h

short_transform : (ps : List Text) → IsShortTransform languages ps → transform.TransformWantsMemory ps → ⊥
short_transform ps s (transform.variants h) =
    let a = (fronts_are_short ps s).variants h.written h.rest h.front in let b = h.many in omega (arith, a, b)
short_transform ps s (transform.fields {id = id} {middle = middle} f h) =
    (fronts_are_short ps s).no_field id middle f h

module _ {start : List Text} {c : ℕ} {ps : List Text} {M : Extensions}
    (a : BlockAt languages start c ps M) where
  pub unicode_goes : to_ascii_lowercase c ≡ code_u → (rest : List Text) (u : Unicode) →
      UnicodeBlock ps rest (Ok u) →
      BlocksDone languages start rest (record M { unicode = unicode.value_of u })
  unicode_goes e rest u h = grind (arith, unicode_done)

  pub unicode_fails : to_ascii_lowercase c ≡ code_u →
      (rest more : List Text) (N : Extensions) (f : ParseError) → UnicodeBlock ps rest (Err f) →
      BlockReads start more N (Err f)
  unicode_fails e rest more N InvalidLanguage h = absurd h
  unicode_fails e rest more N InvalidSubtag h = absurd h
  unicode_fails e rest more N InvalidExtension h = unicode_bad a e h
  unicode_fails e rest more N DuplicatedExtension h = absurd h
  unicode_fails e rest more N OutOfMemory h = unicode_long a e (λ s. short_unicode ps s h)

  pub transform_goes : to_ascii_lowercase c ≡ code_t → (rest : List Text) (m : Transform) →
      TransformBlock ps rest (Ok m) →
      BlocksDone languages start rest (record M { transform = transform.value_of m })
  transform_goes e rest m h = grind (arith, transform_done)

  pub transform_fails : to_ascii_lowercase c ≡ code_t →
      (rest more : List Text) (N : Extensions) (f : ParseError) → TransformBlock ps rest (Err f) →
      BlockReads start more N (Err f)
  transform_fails e rest more N InvalidLanguage h = absurd h
  transform_fails e rest more N InvalidSubtag h = transform_repeats a e h
  transform_fails e rest more N InvalidExtension h = transform_bad a e h.0 h.1
  transform_fails e rest more N DuplicatedExtension h = absurd h
  transform_fails e rest more N OutOfMemory h =
      transform_long a languages_table e (λ s. short_transform ps s h)

  pub private_goes : to_ascii_lowercase c ≡ code_x → (rest ws : List Text) → PrivateFills ps rest (Ok ws) →
      BlocksDone languages start rest (record M { private = ws })
  private_goes e rest ws h = grind (arith, private_done)

  pub private_fails : to_ascii_lowercase c ≡ code_x →
      (rest more : List Text) (N : Extensions) (f : ParseError) → PrivateFills ps rest (Err f) →
      BlockReads start more N (Err f)
  private_fails e rest more N InvalidLanguage h = grind (arith, private_names)
  private_fails e rest more N InvalidSubtag h = grind (arith, private_names)
  private_fails e rest more N InvalidExtension (not_private n) = private_bad a e n
  private_fails e rest more N DuplicatedExtension h = grind (arith, private_names)
  private_fails e rest more N OutOfMemory h = private_long a e (λ l. omega (arith, l, h))

  pub private_reads : to_ascii_lowercase c ≡ code_x →
      (rest ws : List Text) (r : Result (Unit {0}) ParseError) →
      PrivateFills ps rest (result_and r (Ok ws)) → BlockReads start rest (record M { private = ws }) r
  private_reads e rest ws (Ok x) h = private_goes e rest ws h
  private_reads e rest ws (Err f) h = private_fails e rest rest (record M { private = ws }) f h

  pub other_goes : is_other_singleton (to_ascii_lowercase c) ≡ true →
      (rest : List Text) (o : ℕ × List Text) (os : List (ℕ × List Text)) →
      OtherBlock (to_ascii_lowercase c) ps rest (Ok o) → os ≡ put nat_cmp o.0 o.1 M.others →
      BlocksDone languages start rest (record M { others = os })
  other_goes k rest o os h e = grind (arith, other_done)

  pub other_fails : is_other_singleton (to_ascii_lowercase c) ≡ true →
      (rest more : List Text) (N : Extensions) (f : ParseError) →
      OtherBlock (to_ascii_lowercase c) ps rest (Err f) → BlockReads start more N (Err f)
  other_fails k rest more N InvalidLanguage h = absurd h
  other_fails k rest more N InvalidSubtag h = absurd h
  other_fails k rest more N InvalidExtension h = other_bad a k h
  other_fails k rest more N DuplicatedExtension h = absurd h
  other_fails k rest more N OutOfMemory h = other_long a k (λ s. let few = s.0 in omega (arith, few, h))

  pub other_full : is_other_singleton (to_ascii_lowercase c) ≡ true → IsOther (front ps) →
      (more : List Text) (N : Extensions) (f : ParseError) → f ≡ OutOfMemory →
      BlockReads start more N (Err f)
  other_full k whole more N f e =
      subst (λ (x : ParseError). BlockReads start more N (Err x)) (sym e) (other_long a k (λ s. s.1 whole))

-- the byte of a block, with its form in lower case

pub letter_refused : {start : List Text} {c : ℕ} {ps : List Text} {M : Extensions} →
    BlocksDone languages start ((c ∷ []) ∷ ps) M → is_ascii_alphanumeric c ≡ false →
    HasBlockFault languages (blocks start) faults.InvalidExtension
letter_refused d h = no_letter d h

pub part_refused : {start : List Text} {c : ℕ} {ps : List Text} {M : Extensions} (ext : ℕ) →
    BlocksDone languages start ((c ∷ []) ∷ ps) M → is_ascii_alphanumeric c ≡ true →
    ext ≡ to_ascii_lowercase c → is_read M ext ≡ true →
    HasBlockFault languages (blocks start) faults.DuplicatedExtension
part_refused {M = M} ext d h e r = met_before d h (ap (is_read M) (sym e) ∙ r)

pub block_at : {start : List Text} {c : ℕ} {ps : List Text} {M : Extensions} (ext : ℕ) →
    BlocksDone languages start ((c ∷ []) ∷ ps) M → is_ascii_alphanumeric c ≡ true →
    ext ≡ to_ascii_lowercase c → is_read M ext ≡ false → BlockAt languages start c ps M
block_at ext h k e f = grind arith

pub at_letter : (c ext : ℕ) → to_ascii_lowercase c ≡ ext → is_other_singleton ext ≡ true →
    is_other_singleton (to_ascii_lowercase c) ≡ true
at_letter c ext e o = ap is_other_singleton e ∙ o

pub other_inserted : {start : List Text} {c : ℕ} {ps : List Text} {M : Extensions} →
    BlockAt languages start c ps M → (ext : ℕ) → to_ascii_lowercase c ≡ ext → is_other_singleton ext ≡ true →
    (rest : List Text) (o : ℕ × List Text) (old os : List (ℕ × List Text))
    (r : Result (Unit {0}) ParseError)
    → OtherBlock ext ps rest (Ok o) → M.others ≡ old → OnOk r (os ≡ put nat_cmp o.0 o.1 old) →
    IfErr r (λ f. f ≡ OutOfMemory) → BlockReads start rest (record M { others = os }) r
other_inserted {c = c} {ps = ps} {M = M} a ext e k rest o old os (Ok x) h m g i =
    grind (arith, other_goes, at_letter, OtherBlock)
other_inserted {c = c} {M = M} a ext e k rest o old os (Err f) h m g i =
    other_full a (at_letter c ext e k) h.1.0 rest (record M { others = os }) f i

-- what is left is no longer

from_block_short : (ps : List Text) → length (from_block ps) ≤ length ps
from_block_short [] = omega arith
from_block_short (p ∷ ps) = grind (arith, from_block_short ps)

pub rest_short : (ps rest : List Text) → rest ≡ from_block ps → length rest ≤ length ps
rest_short ps rest e = grind (arith, from_block_short)

pub none_short : (ps rest : List Text) → rest ≡ [] → length rest ≤ length ps
none_short ps rest e = grind arith

pub on_any : {A X E : Type 0} (r : Result X E) → A → OnOk r A
on_any (Ok x) a = a
on_any (Err e) a = tt

pub private_shorter : (ps rest ws : List Text) (r : Result (Unit {0}) ParseError) →
    PrivateFills ps rest (result_and r (Ok ws)) → OnOk r (length rest ≤ length ps)
private_shorter ps rest ws r h = grind (arith, none_short)

-- a part that wasn't read is empty

no_items : {X : Type 0} (xs : List X) → (length xs == 0) ≡ true → xs ≡ []
no_items [] h = refl
no_items (x ∷ xs) h = grind arith

both_true : (a b : Bool) → not (a && b) ≡ false → (a ≡ true) × (b ≡ true)
both_true a b h = grind arith

no_value : {X Y : Type 0} (f : X → Y) (o : Option X) → not (is_some (option_map f o)) ≡ true → o ≡ None
no_value f o h = grind arith

read_at : (M : Extensions) (c d : ℕ) → c ≡ d → is_read M c ≡ false → is_read M d ≡ false
read_at M c d e h = ap (is_read M) (sym e) ∙ h

pub no_unicode : (M : Extensions) (c : ℕ) → c ≡ code_u → is_read M c ≡ false →
    (M.unicode.attributes ≡ []) × (M.unicode.keywords ≡ [])
no_unicode M c e h = grind (arith, both_true, read_at, no_items)

pub no_transform : (M : Extensions) (m : Transform) (c : ℕ) → M.transform ≡ transform.value_of m →
    c ≡ code_t →
    is_read M c ≡ false → (m.lang ≡ None) × (m.fields ≡ [])
no_transform M m c v e h = grind (arith, both_true, read_at, no_value, no_items)

pub no_private : (M : Extensions) (c : ℕ) → c ≡ code_x → is_read M c ≡ false → M.private ≡ []
no_private M c e h = grind (arith, no_items, not-false, read_at)

-- the whole loop

pub none_mean : BlocksMean languages [] no_extensions
none_mean = (
  record {
    unicode = record { attributes = []; keywords = [] };
    transform = record { id = None; fields = [] };
    private = [];
    others = [];
  },
  record {
    each_block = tt;
    different = tt;
    unicode = (record { attributes = tt; keywords = tt }, refl);
    transform = (record { id = tt; fields = tt }, refl);
    private = (tt, refl);
    others = (tt, refl);
  },
  refl,
)

pub none_done : (start : List Text) (M : Extensions) → starts_block start ≡ true → M ≡ no_extensions →
    BlocksDone languages start start M
none_done start M s e = grind (arith, none_mean)

pub all_done : (start : List Text) (M : Extensions) → BlocksDone languages start [] M →
    BlocksMean languages (blocks start) M
all_done start M d = subst (λ (bs : List (ℕ × List Text)). BlocksMean languages bs M) (sym d.together)
    (turned_means d.done M d.means)

pub whole_fails : (start rest more : List Text) (M : Extensions) (f : ParseError) →
    BlockReads start rest M (Err f) → BlocksReads start M (Err f)
whole_fails start rest more M f h = grind arith

-- the loop goes on after a byte
pub goes_on : {start : List Text} {M : Extensions} (now rest : List Text) (b : ℕ) →
    BlocksDone languages start now M → Some b ≡ byte_at now → rest ≡ rest_of now →
    BlocksDone languages start ((b ∷ []) ∷ rest) M
goes_on now rest b h k e = grind (arith, byte_first)

pub stops : (start now : List Text) (M : Extensions) → BlocksDone languages start now M →
    None ≡ byte_at now → BlocksMean languages (blocks start) M
stops start now M d e = grind (arith, all_done, no_byte)
