-- Blocks of a text, one after another: what is known at each, and what one more adds.
use Rattle.std.proofs.Common.{◌≡◌, ◌≢◌, ◌⊎◌, inl, inr, ℕ, ◌+◌, ◌<◌, ◌≤◌, ◌==◌, ◌&&◌, ◌||◌, Bool, true, false, not, cond, List, [], ◌∷◌, ◌++◌, length, map, flat_map, refl, sym, ap, ◌∙◌, arith, Option, Some, None, append_assoc, append-nil, length-append, true≢false, eq-eqb, is_some, ap₂, ◌↔◌}
use Rattle.std.specs.List.{AllByRecursion, list_any}
use Rattle.std.specs.Bool.{IsTrue, MatchBool}
use Rattle.std.specs.Char.{is_ascii_alphanumeric, to_ascii_lowercase}
use Rattle.std.specs.Cmp.{nat_cmp_total}
use Rattle.std.specs.Ordering.{nat_cmp, eq_by_cmp}
use Rattle.std.specs.FinMap.{put, find, is_sorted, nat_cmp-IsAntisymmetric}
use Rattle.std.specs.FinMap.Entries.{find-append, is_some-find}
use Rattle.std.proofs.lemmas.Bool.{and_parts, and_from, or_left, or_right, both_ways, cases_lt, eqb-true, false_from_ne_true}
use Rattle.std.proofs.lemmas.Bool.Decides.{nat_tests}
use Rattle.std.proofs.Math.Nat.{le_antisymm}
use Rattle.std.proofs.lemmas.List.{map-append}
use Rattle.std.proofs.lemmas.List.Concat.{flat_map-append}
use Rattle.std.proofs.lemmas.List.Folds.{list_any-append}
use Rattle.std.proofs.lemmas.Simd.{map-map}
use Rattle.iloc_spec_grammar.specs.Syntax.{Text, Block, SpelledUnicode, SpelledTransform, IsAmong, Fields, code_t, code_x, front, blocks, first_piece, is_one_byte, languages, lower, lower_singleton}
use Rattle.iloc_spec_grammar.specs.Meaning.{InvalidExtension, InvalidSubtag, DuplicatedExtension, map_of}
use Rattle.iloc_spec_grammar.specs.Tree.{block_pieces}
use Rattle.iloc_spec_grammar.specs.Reading.{starts_block}
use Rattle.iloc_spec_grammar.specs.Computing.{first_fault, is_block, repeats_variant}
use Rattle.iloc_spec_grammar.proofs.FaultLaws.{block_no_repeat, tests_repeats}
use Rattle.iloc_spec_grammar.proofs.General.{all_mapped, all_of}
use Rattle.iloc_spec_grammar.proofs.MapLaws.{all-map_of, find-map_of, is_sorted-map_of, map_of_same}
use Rattle.iloc_spec_grammar.proofs.Singletons.{lower_letter, self_tied}
use Rattle.iloc_spec_grammar.proofs.ValuesLaws.{all_weaker}
use Rattle.iloc_spec_grammar.proofs.ReadBack.{all_append}
use Rattle.iloc_spec_grammar.proofs.Readings.{blocks_skip}
use Rattle.iloc_spec_grammar.proofs.RuleTests.{tests_block, tests_fails}
use Rattle.iloc_outline.specs.Blocks.{AreBegun, IsBlockRead, ReadsBlocks, body_of}
use Rattle.iloc_outline.specs.Groups.{AreGroups, IsGroup, parts_in}
use Rattle.iloc_pieces.specs.Cursor.{IsLater, piece_left, pieces_left, whole_text}
use Rattle.iloc_outline.specs.Parts.{Part, block_parts, field_part, in_order, printed_part, rank, ranked, transform_parts, unicode_parts, variant_parts, word_part}
use Rattle.iloc_outline.specs.Reading.{IsBody, IsPrivateBody, IsTooMuch, Puts}
use Rattle.iloc_outline.specs.Spans.{Spell}
use Rattle.iloc_spans.specs.Spans.{held_spans}
use Rattle.iloc_pieces.specs.declared.place.Cursor.{Cursor}
use Rattle.iloc_outline.specs.declared.reading.Found.{Found}
use Rattle.iloc_outline.specs.declared.reading.Found.TheVariants.{End, Next, Bad, Repeated, Full}
use Rattle.iloc_spans.specs.declared.span.Role.{Role}
use Rattle.iloc_spans.specs.declared.span.Role.TheVariants as roles
use Rattle.iloc_spans.specs.declared.span.Role.TheVariants.{Singleton}
use Rattle.iloc_spans.specs.declared.spans.Spans.{Spans}
use Rattle.iloc_outline.proofs.Maps.{flat-append, put_between}
use Rattle.iloc_outline.proofs.SpansLemmas.{spell_length}
use Rattle.iloc_spans.proofs.HeldLemmas.{length-held}
use Rattle.iloc_outline.proofs.PartsInOrder.{all_in_order}

-- parts that are no singletons
abbrev pub ArePlain : List Part → Type 0
ArePlain ps = AllByRecursion (λ q. q.role ≢ Singleton) ps

-- the ranks of blocks, and their parts in groups
abbrev pub ranks : List Block → Text
ranks bs = map (λ b. rank (lower_singleton b)) bs

abbrev pub groups_of : List Block → List (ℕ × List Part)
groups_of bs = map_of nat_cmp (map ranked bs)

-- the blocks before the pieces rest of the text are good and were put; last is the greatest rank
pub record IsDone (l : Cursor) (old : Spans) (o : Bool) (rest : List Text) (last : ℕ) (now : Spans)
    (n : Bool) : Type 0 where
  pub done : List Block
  pub seen : Text
  pub cut : pieces_left l ≡ flat_map block_pieces done ++ rest
  pub split : blocks (pieces_left l) ≡ done ++ blocks rest
  pub fault : first_fault languages [] (blocks (pieces_left l)) ≡ first_fault languages seen (blocks rest)
  pub seen_is : (q : ℕ) → list_any (eq_by_cmp nat_cmp q) seen
      ≡ list_any (eq_by_cmp nat_cmp q) (map (λ b. lower_singleton b) done)
  pub letters : AllByRecursion (λ b. is_ascii_alphanumeric b.0 ≡ true) done
  pub adds : (ps : List Part) → ArePlain ps → Spell (whole_text l) old ps
      → Spell (whole_text l) now (ps ++ parts_in (groups_of done))
  pub most : AllByRecursion (λ r. r ≤ last) (ranks done)
  pub there : (last ≡ 0) ⊎ IsAmong nat_cmp last (ranks done)
  pub few : length (held_spans now) + length rest ≤ length (held_spans old) + length (pieces_left l)
  pub order : n ≡ true → (o ≡ true) × (flat_map printed_part (parts_in (groups_of done))
      ≡ map lower (flat_map block_pieces done))

-- and the next singleton is reached
pub record IsAt (l : Cursor) (old : Spans) (o : Bool) (at : Cursor) (last : ℕ) (now : Spans)
    (n : Bool) : Type 0 where
  pub later : IsLater at
  pub single : is_one_byte (piece_left at) ≡ true
  pub text : whole_text at ≡ whole_text l
  pub end : at.at + at.remaining ≡ l.at + l.remaining
  pub before : IsDone l old o (pieces_left at) last now n

-- ---- pieces and blocks

-- behind the singleton c
abbrev pub later_of : ℕ → List Text → List Block
later_of c ps = cond (to_ascii_lowercase c == code_x) [] (blocks ps)

blocks_first : (c : ℕ) (ps : List Text) → blocks ((c ∷ []) ∷ ps) ≡ (c, body_of c ps) ∷ later_of c ps
blocks_first c ps = grind arith

-- where the body ends, blocks go on
pub blocks_behind : (body rest : List Text) → front (body ++ rest) ≡ body → starts_block rest ≡ true
    → blocks (body ++ rest) ≡ blocks rest
blocks_behind [] rest e s = refl
blocks_behind (p ∷ body) rest e s = grind (arith, blocks_skip, blocks_behind body rest)

-- ---- bad blocks

-- the block is bad, and a test tells whether a variant is repeated after `t`
abbrev pub IsBadBlock : ℕ → Bool → List Text → Type 0
IsBadBlock c repeated body = (is_block languages (c, body) ≡ false)
    × (((to_ascii_lowercase c == code_t) && repeats_variant languages body) ≡ repeated)

-- the block whose variant is repeated is bad
repeated_bad : (c : ℕ) (ps : List Text) → to_ascii_lowercase c ≡ code_t → repeats_variant languages ps ≡ true
    → is_block languages (c, ps) ≡ false
repeated_bad c ps e r = tests_fails (tests_block languages (c, ps))
    (λ g. block_no_repeat languages (c, ps) e g ((tests_repeats languages ps).holds r))

-- ---- what was read behind a singleton

-- the block of the singleton c is good and was put; rest comes behind it
pub record IsRead (c : ℕ) (t : Text) (ps rest : List Text) (old new : Spans) (o n : Bool) : Type 0 where
  pub body : List Text
  pub all : ps ≡ body ++ rest
  pub first : blocks ((c ∷ []) ∷ ps) ≡ (c, body) ∷ blocks rest
  pub good : is_block languages (c, body) ≡ true
  pub puts : Puts t (block_parts (c, body)) ((c ∷ []) ∷ body) old new o n

-- what a reading says, where the test for `x` answers b
abbrev pub IsReadAt : Bool → ℕ → Cursor → Cursor → Spans → Spans → Bool → Bool → Found → Type 0
IsReadAt b c l m old new o n r = MatchBool b (IsPrivateBody c l old new o n r) (IsBody c l m old new o n r)

-- the block is the last one
pub read_end : (c : ℕ) (l k : Cursor) (old new : Spans) (o n : Bool) → IsBlockRead c l k old new o n End
    → IsRead c (whole_text l) (pieces_left l) [] old new o n
read_end c l k old new o n h = at (to_ascii_lowercase c == code_x) refl h
  where
    at : (b : Bool) → (to_ascii_lowercase c == code_x) ≡ b → IsReadAt b c l k old new o n End
        → IsRead c (whole_text l) (pieces_left l) [] old new o n
    at true e h = grind (arith, append-nil)
    at false e h = record {
      body = pieces_left l;
      all = sym (append-nil (pieces_left l));
      first =
          ap (λ t. cond t ((c, pieces_left l) ∷ []) ((c, front (pieces_left l)) ∷ blocks (pieces_left l))) e
          ∙ (λ j. (c, h.body j) ∷ (ap blocks (sym (append-nil (pieces_left l)))
          ∙ blocks_behind (pieces_left l) [] (ap front (append-nil (pieces_left l)) ∙ h.body) refl) j);
      good = h.good;
      puts = h.puts;
    }

-- another block follows
pub record IsReadTo (c : ℕ) (l k : Cursor) (old new : Spans) (o n : Bool) : Type 0 where
  pub read : IsRead c (whole_text l) (pieces_left l) (pieces_left k) old new o n
  pub later : IsLater k
  pub single : is_one_byte (piece_left k) ≡ true
  pub less : k.remaining ≤ l.remaining
  pub window : k.window.now ≡ l.window.now
  pub end : k.at + k.remaining ≡ l.at + l.remaining
  pub text : whole_text k ≡ whole_text l

starts_at : (ps : List Text) → is_one_byte (first_piece ps) ≡ true → starts_block ps ≡ true
starts_at [] h = refl
starts_at (p ∷ ps) h = h

-- it was read, and the other singleton is reached
pub read_next : (c : ℕ) (l k : Cursor) (old new : Spans) (o n : Bool) → IsBlockRead c l k old new o n Next
    → IsReadTo c l k old new o n
read_next c l k old new o n h = at (to_ascii_lowercase c == code_x) refl h
  where
    at : (b : Bool) → (to_ascii_lowercase c == code_x) ≡ b → IsReadAt b c l k old new o n Next
        → IsReadTo c l k old new o n
    at true e h = absurd (h tt)
    at false e h =
        grind (arith, blocks_behind, starts_at)

-- it is bad, and no variant is repeated
pub read_bad : (c : ℕ) (l k : Cursor) (old new : Spans) (o n : Bool) → IsBlockRead c l k old new o n Bad
    → IsBadBlock c false (body_of c (pieces_left l))
read_bad c l k old new o n h = at (to_ascii_lowercase c == code_x) refl h
  where
    no_t : (k : ℕ) → (k == code_x) ≡ true → (k == code_t) ≡ false
    no_t k e = grind (arith, nat_tests)

    at : (b : Bool) → (to_ascii_lowercase c == code_x) ≡ b → IsReadAt b c l k old new o n Bad
        → IsBadBlock c false (cond b (pieces_left l) (front (pieces_left l)))
    at true e h =
        (h, ap (λ t. t && repeats_variant languages (pieces_left l)) (no_t (to_ascii_lowercase c) e))
    at false e h = grind (arith, false_from_ne_true, and_parts, eqb-true)

-- a variant is repeated after `t`
pub read_repeated : (c : ℕ) (l k : Cursor) (old new : Spans) (o n : Bool) →
    IsBlockRead c l k old new o n Repeated
    → IsBadBlock c true (body_of c (pieces_left l))
read_repeated c l k old new o n h = at (to_ascii_lowercase c == code_x) h
  where
    at : (b : Bool) → IsReadAt b c l k old new o n Repeated
        → IsBadBlock c true (cond b (pieces_left l) (front (pieces_left l)))
    at true h = absurd (h tt)
    at false h = (repeated_bad c (front (pieces_left l)) h.0 h.1, and_from _ _ (eq-eqb _ _ h.0) h.1)

-- there is no room for what the pieces may need
pub read_full : (c : ℕ) (l k : Cursor) (old new : Spans) (o n : Bool) → IsBlockRead c l k old new o n Full
    → IsTooMuch old (1 + length (pieces_left l))
read_full c l k old new o n h = grind arith

no_some : {X : Type 0} (o : Option X) → is_some o ≡ false → o ≡ None
no_some None e = refl
no_some (Some x) e = absurd (true≢false e)

-- ---- ranks

rank_same : (a b : ℕ) → is_ascii_alphanumeric a ≡ true → is_ascii_alphanumeric b ≡ true
    → eq_by_cmp nat_cmp (rank a) (rank b) ≡ eq_by_cmp nat_cmp a b
rank_same a b h k = grind (arith, nat_tests)

-- ranks are the same where singletons are
any_ranks : (c : ℕ) → is_ascii_alphanumeric c ≡ true → (bs : List Block)
    → AllByRecursion (λ b. is_ascii_alphanumeric b.0 ≡ true) bs
    → list_any (eq_by_cmp nat_cmp (rank (to_ascii_lowercase c))) (ranks bs)
    ≡ list_any (eq_by_cmp nat_cmp (to_ascii_lowercase c)) (map (λ b. lower_singleton b) bs)
any_ranks c a [] h = refl
any_ranks c a (b ∷ bs) h = search (ap₂, rank_same, lower_letter, any_ranks c a bs h.1)

any_groups : (r : ℕ) (bs : List Block) → list_any (eq_by_cmp nat_cmp r) (map (λ g. g.0) (groups_of bs))
    ≡ list_any (eq_by_cmp nat_cmp r) (ranks bs)
any_groups r bs = sym (is_some-find nat_cmp r (groups_of bs))
    ∙ ap is_some (find-map_of nat_cmp nat_cmp_total r (map ranked bs))
    ∙ is_some-find nat_cmp r (map ranked bs)
    ∙ ap (list_any (eq_by_cmp nat_cmp r)) (map-map (λ (g : ℕ × List Part). g.0) ranked bs)

-- ---- groups

plain_words : (r : Role) → r ≢ Singleton → (ws : List Text) → ArePlain (in_order (map (word_part r) ws))
plain_words r n ws = all_in_order _ (map (word_part r) ws)
    (all_mapped (λ _. Unit {0}) _ (word_part r) (λ w _. n) ws (all_of _ (λ _. tt) ws))

plain_fields : (r : Role) → r ≢ Singleton → (fs : Fields) → ArePlain (in_order (map (field_part r) fs))
plain_fields r n fs = all_in_order _ (map (field_part r) fs)
    (all_mapped (λ _. Unit {0}) _ (field_part r) (λ f _. n) fs (all_of _ (λ _. tt) fs))

-- variants are no singletons
pub plain_variants : (ws : List Text) → ArePlain (variant_parts ws)
plain_variants ws = plain_words roles.Variant (λ e. cc) ws

plain_transform : (m : SpelledTransform) → ArePlain (transform_parts m)
plain_transform m = grind (arith, all_append, plain_variants, plain_fields)

plain_unicode : (u : SpelledUnicode) → ArePlain (unicode_parts u)
plain_unicode u = grind (arith, all_append, plain_words, plain_fields)

all_groups : (bs : List Block) → AllByRecursion IsGroup (groups_of bs)
all_groups bs = all-map_of nat_cmp nat_cmp-IsAntisymmetric IsGroup (map ranked bs)
    (all_mapped (λ _. Unit {0}) IsGroup ranked (λ b _. (grind (arith, plain_transform, plain_unicode))) bs
    (all_of _ (λ _. tt) bs))

-- one block more, whose rank is new
groups_more : (bs : List Block) (b : Block) → list_any (eq_by_cmp nat_cmp (rank (lower_singleton b)))
    (ranks bs) ≡ false
    → groups_of (bs ++ b ∷ []) ≡ put nat_cmp (rank (lower_singleton b)) (block_parts b) (groups_of bs)
groups_more bs b new =
    ap (map_of nat_cmp) (map-append ranked bs (b ∷ []))
    ∙ map_of_same nat_cmp nat_cmp_total nat_cmp-IsAntisymmetric (map ranked bs ++ ranked b ∷ [])
    (ranked b ∷ map ranked bs) (λ q. find-append nat_cmp nat_cmp_total (map ranked bs)
    (rank (lower_singleton b)) (block_parts b) q none)
  where
    none : find nat_cmp (rank (lower_singleton b)) (map ranked bs) ≡ None
    none = no_some _ (cc (
      is_some-find nat_cmp (rank (lower_singleton b)) (map ranked bs),
      map-map (λ (g : ℕ × List Part). g.0) ranked bs,
      new,
    ))

-- a block of the greatest rank comes last
groups_last : (bs : List Block) (r : ℕ) (ps : List Part) → AllByRecursion (λ k. k < r) (ranks bs)
    → put nat_cmp r ps (groups_of bs) ≡ groups_of bs ++ (r, ps) ∷ []
groups_last bs r ps h =
    let below : AllByRecursion (λ g. g.0 < r) (groups_of bs) =
    all-map_of nat_cmp nat_cmp-IsAntisymmetric (λ g. g.0 < r) (map ranked bs)
    (all_ranks (λ k. k < r) bs h) in
    cc (append-nil (groups_of bs), put_between r ps (groups_of bs) [] below tt)
  where
    all_ranks : (P : ℕ → Type 0) (bs : List Block) → AllByRecursion P (ranks bs)
        → AllByRecursion (λ (g : ℕ × List Part). P g.0) (map ranked bs)
    all_ranks P [] h = tt
    all_ranks P (b ∷ bs) h = (h.0, all_ranks P bs h.1)

-- the test tells whether a group among the spans has the rank
abbrev pub IsTold : Spans → ℕ → Bool → Type 0
IsTold now r b = (t : Text) (before : List Part) (groups : List (ℕ × List Part)) → AreGroups before groups
    → Spell t now (before ++ parts_in groups) → IsTrue b ↔ IsAmong nat_cmp r (map (λ g. g.0) groups)

-- the last parts of mid stand in placed where their new rank belongs
abbrev pub IsPlaced : Spans → Spans → Spans → ℕ → Type 0
IsPlaced now mid placed r = (t : Text) (before parts : List Part) (groups : List (ℕ × List Part))
    → AreGroups before groups → is_sorted nat_cmp groups ≡ true
    → ¬ (IsAmong nat_cmp r (map (λ g. g.0) groups)) → length (before ++ parts_in groups) ≡ now.count
    → Spell t mid ((before ++ parts_in groups) ++ parts)
    → Spell t placed (before ++ parts_in (put nat_cmp r parts groups))

-- ---- faults of a block

module _ (c : ℕ) (ps : List Text) (l : Cursor) (old : Spans) (o : Bool) (last : ℕ) (now : Spans) (n : Bool)
    (d : IsDone l old o ((c ∷ []) ∷ ps) last now n) where
  -- the fault of the text, as the tests of the block tell
  abbrev Outcome : Bool → Bool → Bool → Bool → Type 0
  Outcome a s g r = first_fault languages [] (blocks (pieces_left l))
      ≡ cond (not a) (Some InvalidExtension) (cond s (Some DuplicatedExtension)
      (cond g (first_fault languages (to_ascii_lowercase c ∷ d.seen) (later_of c ps))
      (cond r (Some InvalidSubtag) (Some InvalidExtension))))

  outcome : (a s g r : Bool) → is_ascii_alphanumeric c ≡ a
      → list_any (eq_by_cmp nat_cmp (to_ascii_lowercase c)) d.seen ≡ s → is_block languages (c, body_of c ps)
      ≡ g
      → ((to_ascii_lowercase c == code_t) && repeats_variant languages (body_of c ps)) ≡ r → Outcome a s g r
  outcome a s g r x y z w = grind (arith, blocks_first)

  -- the singleton is no letter or digit
  pub no_letter : is_ascii_alphanumeric c ≡ false → first_fault languages [] (blocks (pieces_left l))
      ≡ Some InvalidExtension
  no_letter a = outcome false _ _ _ a refl refl refl

  -- whether the rank is among those of the blocks before
  abbrev pub IsSeen : Bool → Type 0
  IsSeen b = list_any (eq_by_cmp nat_cmp (rank (to_ascii_lowercase c))) (ranks d.done) ≡ b

  -- the ranks tell whether it was seen
  seen_by : is_ascii_alphanumeric c ≡ true → list_any (eq_by_cmp nat_cmp (to_ascii_lowercase c)) d.seen
      ≡ list_any (eq_by_cmp nat_cmp (rank (to_ascii_lowercase c))) (ranks d.done)
  seen_by a = grind (arith, any_ranks)

  -- an earlier block has the singleton
  pub is_second : is_ascii_alphanumeric c ≡ true → IsSeen true
      → first_fault languages [] (blocks (pieces_left l)) ≡ Some DuplicatedExtension
  is_second a s = outcome true true _ _ a (seen_by a ∙ s) refl refl

  -- the block is bad
  pub is_bad : is_ascii_alphanumeric c ≡ true → IsSeen false → IsBadBlock c false (body_of c ps)
      → first_fault languages [] (blocks (pieces_left l)) ≡ Some InvalidExtension
  is_bad a s g = outcome true false false false a (seen_by a ∙ s) g.0 g.1

  -- a variant is repeated
  pub repeats : is_ascii_alphanumeric c ≡ true → IsSeen false → IsBadBlock c true (body_of c ps)
      → first_fault languages [] (blocks (pieces_left l)) ≡ Some InvalidSubtag
  repeats a s g = outcome true false false true a (seen_by a ∙ s) g.0 g.1

-- ---- one block more

or_last : (x y : Bool) → (x || (y || false)) ≡ (y || x)
or_last true true = refl
or_last _ _ = refl

any_last : (q : ℕ) (c : ℕ) (ks : Text) → list_any (eq_by_cmp nat_cmp q) (ks ++ c ∷ [])
    ≡ (eq_by_cmp nat_cmp q c || list_any (eq_by_cmp nat_cmp q) ks)
any_last q c ks = simp (list_any-append, or_last)

-- a new rank that is not less than the greatest is greater
greatest : (c last : ℕ) (ks : Text) → is_ascii_alphanumeric c ≡ true → (last ≡ 0) ⊎ IsAmong nat_cmp last ks
    → list_any (eq_by_cmp nat_cmp (rank (to_ascii_lowercase c))) ks ≡ false
    → last ≤ rank (to_ascii_lowercase c) → last < rank (to_ascii_lowercase c)
greatest c last ks a there new h = grind (arith, cases_lt, le_antisymm, true≢false, nat_tests)

module _ (c : ℕ) (ps rest : List Text) (l : Cursor) (old : Spans) (o : Bool) (last : ℕ) (now mid : Spans)
    (n m k : Bool)
    (d : IsDone l old o ((c ∷ []) ∷ ps) last now n) (letter : is_ascii_alphanumeric c ≡ true)
    (new : list_any (eq_by_cmp nat_cmp (rank (to_ascii_lowercase c))) (ranks d.done) ≡ false)
    (ordered : m ≡ true → (n ≡ true) × (last < rank (to_ascii_lowercase c)))
    (r : IsRead c (whole_text l) ps rest now mid m k) where
  abbrev its_rank : ℕ
  its_rank = rank (to_ascii_lowercase c)

  abbrev block : Block
  block = (c, r.body)

  abbrev more : List Block
  more = d.done ++ block ∷ []

  split_more : blocks (pieces_left l) ≡ more ++ blocks rest
  split_more = grind (arith, append_assoc)

  cut_more : pieces_left l ≡ flat_map block_pieces more ++ rest
  cut_more = grind (arith, append_assoc, append-nil, flat_map-append)

  fault_more : first_fault languages [] (blocks (pieces_left l))
      ≡ first_fault languages (to_ascii_lowercase c ∷ d.seen) (blocks rest)
  fault_more = grind (arith, any_ranks)

  seen_more : (q : ℕ) → list_any (eq_by_cmp nat_cmp q) (to_ascii_lowercase c ∷ d.seen)
      ≡ list_any (eq_by_cmp nat_cmp q) (map (λ b. lower_singleton b) more)
  seen_more q = grind (arith, any_last, map-append)

  ranks_more : ranks more ≡ ranks d.done ++ its_rank ∷ []
  ranks_more = map-append (λ b. rank (lower_singleton b)) d.done (block ∷ [])

  most_more : (top : ℕ) → AllByRecursion (λ j. j ≤ top) (ranks d.done) → its_rank ≤ top
      → AllByRecursion (λ j. j ≤ top) (ranks more)
  most_more top h x = search (ranks_more, all_append)

  some_more : (q : ℕ) → IsAmong nat_cmp q (its_rank ∷ ranks d.done) → IsAmong nat_cmp q (ranks more)
  some_more q h = search (ranks_more, any_last)

  groups_are : groups_of more ≡ put nat_cmp its_rank (block_parts block) (groups_of d.done)
  groups_are = groups_more d.done block new

  -- a block of the greatest rank so far
  module _ (above : last < its_rank) where
    last_groups : groups_of more ≡ groups_of d.done ++ (its_rank, block_parts block) ∷ []
    last_groups = grind (arith, groups_are, groups_last, all_weaker)

    last_parts : parts_in (groups_of more) ≡ parts_in (groups_of d.done) ++ block_parts block
    last_parts = search (last_groups, flat-append, append-nil)

  order_more : k ≡ true → (o ≡ true) × (flat_map printed_part (parts_in (groups_of more))
      ≡ map lower (flat_map block_pieces more))
  order_more e = grind (arith, flat_map-append, append-nil, last_parts, map-append)

  few_more : length (held_spans mid) + length rest ≤ length (held_spans old) + length (pieces_left l)
  few_more = omega (arith, r.puts.few, d.few, ap length r.all, length-append r.body rest)

  -- it stays behind the others
  pub stays : last ≤ its_rank → IsDone l old o rest its_rank mid k
  stays h =
      let above : last < its_rank = greatest c last (ranks d.done) letter d.there new h in
      record {
        done = more;
        seen = to_ascii_lowercase c ∷ d.seen;
        cut = cut_more;
        split = split_more;
        fault = fault_more;
        seen_is = seen_more;
        letters = search all_append;
        adds = grind (arith, append_assoc, last_parts);
        most = most_more its_rank (grind (arith, all_weaker)) (omega arith);
        there = inr (some_more its_rank (or_left _ _ (self_tied its_rank)));
        few = few_more;
        order = order_more;
      }

  -- or it is placed before those of greater ranks
  pub is_placed : its_rank < last → (placed : Spans) → placed.count ≡ mid.count
      → IsPlaced now mid placed its_rank → IsDone l old o rest last placed k
  is_placed below placed count place = record {
    done = more;
    seen = to_ascii_lowercase c ∷ d.seen;
    cut = cut_more;
    split = split_more;
    fault = fault_more;
    seen_is = seen_more;
    letters = search all_append;
    adds = λ qs plain was. rw groups_are (place (whole_text l) qs (block_parts block) (groups_of d.done)
        (plain, all_groups d.done)
        (is_sorted-map_of nat_cmp nat_cmp_total (map ranked d.done))
        (both_ways _ (any_groups its_rank d.done ∙ new))
        (grind (arith, spell_length, length-held))
        (r.puts.adds (qs ++ parts_in (groups_of d.done)) (d.adds qs plain was)));
    most = most_more last d.most (omega arith);
    there = elim d.there [ inl x ↦ inl x | inr x ↦ inr (some_more last (or_right _ _ x)) ];
    few = omega (arith, few_more, length-held mid, length-held placed);
    order = order_more;
  }

-- ---- at the beginning and at the end

-- no block was read
pub at_start : (l : Cursor) (old : Spans) (o : Bool) → IsDone l old o (pieces_left l) 0 old o
at_start l old o = record {
  done = [];
  seen = [];
  cut = refl;
  split = refl;
  fault = refl;
  seen_is = λ q. refl;
  letters = tt;
  adds = λ ps plain h. rw (append-nil ps) h;
  most = tt;
  there = inl refl;
  few = omega arith;
  order = λ e. (e, refl);
}

-- nothing is left
pub all_done : (l : Cursor) (old : Spans) (o : Bool) (last : ℕ) (now : Spans) (n : Bool)
    → IsDone l old o [] last now n → ReadsBlocks l old now o n
all_done l old o last now n d = grind (arith, append-nil)

-- whether there is a block of the rank
pub told : (l : Cursor) (old : Spans) (o : Bool) (rest : List Text) (last : ℕ) (now : Spans) (n : Bool)
    (d : IsDone l old o rest last now n) → AreBegun (whole_text l) old
    → (r : ℕ) (b : Bool) → IsTold now r b → list_any (eq_by_cmp nat_cmp r) (ranks d.done) ≡ b
told l old o rest last now n d begun r b answer = grind (
  arith,
  any_groups,
  all_groups,
  false_from_ne_true,
  true≢false,
)
