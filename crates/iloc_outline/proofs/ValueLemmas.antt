-- Values of keys: how they are printed, and how they are passed.
use Rattle.std.proofs.Common.{◌≡◌, ℕ, ◌+◌, ◌-◌, ◌<◌, ◌≤◌, Bool, true, false, ◌||◌, List, [], ◌∷◌, ◌++◌, length, map, refl, sym, ap, ◌∙◌, arith, length-append}
use Rattle.std.specs.List.{AllByRecursion, list_any}
use Rattle.std.proofs.lemmas.Bool.{or_parts}
use Rattle.std.proofs.lemmas.List.Folds.{list_any-append}
use Rattle.iloc_spec_grammar.specs.Syntax.{Text, Attribute, IsWord, is_word, is_true, lower}
use Rattle.iloc_spec_grammar.specs.Meaning.{normal_values}
use Rattle.iloc_spec_grammar.specs.Values.{spelled_value}
use Rattle.iloc_spec_grammar.proofs.MapLaws.{same_is}
use Rattle.iloc_spec_grammar.proofs.ReadBack.{all_append}
use Rattle.iloc_outline.specs.Fields.{PrintsAsItIs, IsValueRead}
use Rattle.iloc_pieces.specs.Cursor.{IsLater, IsNextPiece, IsPast, IsShortPiece, piece_left}
use Rattle.iloc_outline.specs.Reading.{IsOfField}
use Rattle.iloc_pieces.specs.declared.place.Cursor.{Cursor}
use Rattle.iloc_spans.specs.declared.span.Role.{Role}
use Rattle.iloc_spans.specs.declared.span.Role.TheVariants as roles
use Rattle.iloc_pieces.proofs.CursorLemmas.{last_piece, past_next, past_none, pieces_end, short_attribute, spanned_end}

-- ---- printing

-- whether a value is `true`
abbrev pub says_true : Text → Bool
says_true w = is_true (lower w)

-- without any `true` they are printed as they are
none_left_out : (vs : List Text) → list_any says_true vs ≡ false → normal_values vs ≡ map lower vs
none_left_out [] h = refl
none_left_out (v ∷ vs) h =
    grind (arith, or_parts, none_left_out vs (or_parts (says_true v) (list_any says_true vs) h).1)

some_spelled : (vs : List Text) → 0 < length vs → spelled_value (map lower vs) ≡ map lower vs
some_spelled [] l = absurd (omega arith)
some_spelled (v ∷ vs) l = refl

-- a value without any `true`
pub plain_without : (r : Role) → IsOfField r → (n : ℕ) (t : Bool) → t ≡ false → PrintsAsItIs r n t
plain_without roles.Keyword h n t e f is long any = ap (λ l. lower f.0 ∷ l) (none_left_out f.1 (sym any ∙ e))
plain_without roles.Field h n t e f is long any = grind (arith, none_left_out, some_spelled)
plain_without _ h n t e f is long any = absurd (h tt)

or_none : (b : Bool) → (b || false) ≡ b
or_none true = refl
or_none false = refl

only_true : (vs : List Text) → length vs ≡ 1 → list_any says_true vs ≡ true
    → spelled_value (normal_values vs) ≡ map lower vs
unfolding is_true
only_true [] l e = absurd (omega arith)
only_true (v ∷ []) l e = grind (arith, or_none, same_is)
only_true (v ∷ w ∷ vs) l e = absurd (omega arith)

-- a field whose only value is `true`
pub plain_one : (r : Role) → IsOfField r → (r ≡ roles.Keyword → ⊥) → (n : ℕ) (t : Bool) → n ≤ 1 → t ≡ true
    → PrintsAsItIs r n t
plain_one roles.Keyword h other n t l e f is long any = absurd (other refl)
plain_one roles.Field h other n t l e f is long any =
    ap (λ vs. lower f.0 ∷ vs) (only_true f.1 (omega (arith, is.2)) (sym any ∙ e))
plain_one _ h other n t l e f is long any = absurd (h tt)

-- ---- passing

-- from a key on these values were passed, and the last piece is reached
pub record Reaches (key at : Cursor) (n : ℕ) (t : Bool) : Type 0 where
  pub before : List Text
  pub past : IsPast key at before
  pub values : List Text
  pub pieces : before ++ (piece_left at ∷ []) ≡ piece_left key ∷ values
  pub short : IsShortPiece (piece_left at)
  pub each : AllByRecursion (IsWord Attribute) values
  pub count : n ≡ length values
  pub any : t ≡ list_any says_true values
  pub room : n + at.remaining ≤ key.remaining

-- none
pub reaches_key : (key : Cursor) → IsLater key → IsShortPiece (piece_left key) →
    Reaches key key 0 false
reaches_key key later short = grind (arith, past_none)

any_more : (vs : List Text) (v : Text)
    → list_any says_true (vs ++ (v ∷ [])) ≡ (list_any says_true vs || says_true v)
any_more vs v = simp (list_any-append, or_none)

module _ (key at : Cursor) (n : ℕ) (t : Bool) (h : Reaches key at n t) (later : IsLater key) where
  -- nothing follows
  pub value_last : at.piece_length ≡ at.remaining
      → IsValueRead key at (record { is_end = true; end = at.at + at.piece_length; count = n; has_true = t })
  value_last last =
      let end = last_piece at last h.short in
      record {
        values = h.values;
        each = h.each;
        next = pieces_end h.past end ∙ h.pieces;
        count = h.count;
        trues = h.any;
        end = λ start qs s.
            rw h.pieces at (spanned_end h.past end later s);
      }

  module _ (next : Cursor) (k : IsNextPiece at next) where
    -- what follows is no value
    pub value_before : is_word Attribute (piece_left next) ≡ false
        → IsValueRead key next (record { is_end = false; end = next.at - 1; count = n; has_true = t })
    value_before none =
        let past = rw h.pieces at (past_next h.past h.short k) in
        record {
          values = h.values;
          each = h.each;
          next = (past, none);
          count = h.count;
          trues = h.any;
          end = λ start qs s. past.spanned later start qs s;
        }

    -- one value more
    pub reaches_more : IsWord Attribute (piece_left next) → (u : Bool) →
        u ≡ (t || says_true (piece_left next))
        → Reaches key next (n + 1) u
    reaches_more word u e = record {
      before = h.before ++ (piece_left at ∷ []);
      past = past_next h.past h.short k;
      values = h.values ++ (piece_left next ∷ []);
      pieces = ap (λ ps. ps ++ (piece_left next ∷ [])) h.pieces;
      short = short_attribute (piece_left next) word;
      each = all_append (IsWord Attribute) h.values (piece_left next ∷ []) h.each (word, tt);
      count = omega (arith, h.count, length-append h.values (piece_left next ∷ []));
      any = grind (arith, any_more);
      room = omega (arith, h.room, k.less);
    }
