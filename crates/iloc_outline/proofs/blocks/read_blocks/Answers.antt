use Rattle.std.proofs.Common.{arith, ◌≡◌, inl, inr, ℕ, List, [], true, sym, ap, ◌∙◌, subst}
use Rattle.std.specs.Char.{is_ascii_alphanumeric}
use Rattle.iloc_spec_grammar.specs.Syntax.{Text}
use Rattle.iloc_outline.specs.Blocks.{IsBlockRead}
use Rattle.iloc_pieces.specs.Cursor.{pieces_left, whole_text}
use Rattle.iloc_outline.specs.Parts.{rank}
use Rattle.iloc_outline.specs.declared.reading.Found.{Found}
use Rattle.iloc_outline.specs.declared.reading.Found.TheVariants.{Bad, End, Full, Next, Repeated}
use Rattle.iloc_spans.specs.declared.spans.Spans.{Spans}
use Rattle.iloc_outline.proofs.BlocksLemmas.{IsDone, IsRead, all_done}
use Rattle.iloc_pieces.proofs.CursorLemmas.{last_piece, single_short}
use Rattle.iloc_outline.proofs.RefusalLemmas.{refused_before}
use Rattle.iloc_outline.proofs.SingletonSteps as at
use Rattle.iloc_outline.proofs.blocks.read_blocks.Given.{Over}
use Rattle.iloc_outline.proofs.blocks.read_blocks.Goals as goal
use Rattle.iloc_outline.proofs.blocks.read_blocks.Goals.{After-read_body-found, Joined-rank-last-2, else-rank-last, else-rank-last-2, then-rank-last+else-has_block, then-rank-last-2}

pub singletons-init : goal.singletons-init
singletons-init g c =
    at.starts_at c.args.cursor.now c.args.spans.now c.args.in_order.now
    c.requires.later c.requires.single

pub returns-then-not-is_alphanumeric-clause-read : goal.returns-then-not-is_alphanumeric-clause-read
returns-then-not-is_alphanumeric-clause-read g c =
    at.refuses_letter c.singletons.invariant (sym c.is_alphanumeric.ensures ∙ c.if-not-is_alphanumeric.true)

pub returns-then-has_block-clause-read : goal.returns-then-has_block-clause-read
returns-then-has_block-clause-read g c =
    let h = c.singletons.invariant in
    let letter : is_ascii_alphanumeric (at.byte_at h) ≡ true = sym c.is_alphanumeric.ensures
    ∙ c.if-not-is_alphanumeric.false in
    at.refuses_second h letter
    (at.seen h letter c.requires.begun c.rank_of-rank.result
    (c.rank_of-rank.ensures ∙ ap rank c.singleton-byte.ensures)
    c.has_block.result c.has_block.ensures ∙ c.if-has_block.true)

pub returns-then-is_last-clause-read : goal.returns-then-is_last-clause-read
returns-then-is_last-clause-read g c =
    let h = c.singletons.invariant in
    let letter : is_ascii_alphanumeric (at.byte_at h) ≡ true = sym c.is_alphanumeric.ensures
    ∙ c.if-not-is_alphanumeric.false in
    let rank_is : c.rank_of-rank.result ≡ at.rank_at h = c.rank_of-rank.ensures
    ∙ ap rank c.singleton-byte.ensures in
    let fresh : at.IsFresh h letter c.if-rank-last.in_order = elim c.if-rank-last.branch [
      | then-rank-last+else-has_block w ↦
          at.fresh_told h letter c.requires.begun c.rank_of-rank.result rank_is
          w.has_block.result w.if-has_block.false w.has_block.ensures c.if-rank-last.in_order w.in_order-is
      | else-rank-last w ↦ at.fresh_above h letter c.rank_of-rank.result rank_is w.if-rank-last.false
          c.if-rank-last.in_order w.in_order-is
    ] in
    at.refuses_end h letter fresh.new
    (grind (arith, last_piece, single_short))

pub read_body-found-requires-clause-singleton : goal.read_body-found-requires-clause-singleton
read_body-found-requires-clause-singleton g c =
    let h = c.singletons.invariant in
    (at.byte_at h, sym c.singleton-byte.ensures, at.spanned_at h c.advance.ensures)

-- what was read behind the singleton, if it is r
abbrev IsReadAs : (g : Over) → After-read_body-found g → Found → Type 0
IsReadAs g c r = IsBlockRead (at.byte_at c.singletons.invariant) c.advance.new.cursor
    c.read_body-found.new.cursor c.singletons.spans
    c.read_body-found.new.spans c.if-rank-last.in_order c.read_body-found.new.in_order r

read_as : (g : Over) (c : After-read_body-found g) (r : Found) → c.read_body-found.result ≡ r → IsReadAs g c r
read_as g c r e = rw e at (c.read_body-found.ensures.read (at.byte_at c.singletons.invariant)
    (sym c.singleton-byte.ensures)
    (at.spanned_at c.singletons.invariant c.advance.ensures))

rank_is : (g : Over) (c : After-read_body-found g) → c.rank_of-rank.result ≡ at.rank_at c.singletons.invariant
rank_is g c = grind arith

-- the singleton is passed
passed : (g : Over) (c : After-read_body-found g)
    → at.Passed c.singletons.invariant c.advance.new.cursor c.read_body-found.new.spans
    c.if-rank-last.in_order c.read_body-found.new.in_order
passed g c =
    let h = c.singletons.invariant in
    let letter : is_ascii_alphanumeric (at.byte_at h) ≡ true = sym c.is_alphanumeric.ensures
    ∙ c.if-not-is_alphanumeric.false in
    let fresh : at.IsFresh h letter c.if-rank-last.in_order = elim c.if-rank-last.branch [
      | then-rank-last+else-has_block w ↦ at.fresh_told h letter c.requires.begun c.rank_of-rank.result
          (rank_is g c)
          w.has_block.result w.if-has_block.false w.has_block.ensures c.if-rank-last.in_order w.in_order-is
      | else-rank-last w ↦ at.fresh_above h letter c.rank_of-rank.result (rank_is g c) w.if-rank-last.false
          c.if-rank-last.in_order w.in_order-is
    ] in
    record { letter = letter; fresh = fresh; next = c.advance.ensures }

pub returns-in-Bad-clause-read : goal.returns-in-Bad-clause-read
returns-in-Bad-clause-read g c =
    let p = (goal.at.returns-in-Bad-clause-read g c).After-read_body-found in
    at.refuses_bad c.singletons.invariant (passed g p) c.read_body-found.new.cursor
    (read_as g p Bad c.in-Bad.is)

pub returns-in-Repeated-clause-read : goal.returns-in-Repeated-clause-read
returns-in-Repeated-clause-read g c =
    let p = (goal.at.returns-in-Repeated-clause-read g c).After-read_body-found in
    at.refuses_repeated c.singletons.invariant (passed g p) c.read_body-found.new.cursor
    (read_as g p Repeated c.in-Repeated.is)

pub returns-in-Full-clause-read : goal.returns-in-Full-clause-read
returns-in-Full-clause-read g c =
    let p = (goal.at.returns-in-Full-clause-read g c).After-read_body-found in
    at.too_many c.singletons.invariant (passed g p) c.read_body-found.new.cursor
    (read_as g p Full c.in-Full.is)

pub returns-in-Full-clause-refused : goal.returns-in-Full-clause-refused
returns-in-Full-clause-refused g c = λ _.
    let p = (goal.at.returns-in-Full-clause-refused g c).After-read_body-found in
    refused_before _ c.args.spans.now c.singletons.spans _ _
    (at.passed_few c.singletons.invariant (passed g p))
    (c.read_body-found.ensures.refused c.in-Full.is)

pub place_block-requires : goal.place_block-requires
place_block-requires g c =
    let p = (goal.at.place_block-requires g c).After-read_body-found in
    let h = c.singletons.invariant in
    let next = c.read_body-found.new.cursor in
    elim c.in-End.is [
      | inl e ↦
          at.grows h (passed g p) c.requires.begun [] (at.ends_here h (passed g p) next (read_as g p End e))
      | inr e ↦ at.grows h (passed g p) c.requires.begun (pieces_left next)
          (at.goes_on h (passed g p) next (read_as g p Next e))
    ]

-- the block was put, and rest follows
abbrev IsPut : (g : Over) → Joined-rank-last-2 g → List Text → ℕ → Spans → Type 0
IsPut g c rest last spans =
    IsDone c.args.cursor.now c.args.spans.now c.args.in_order.now rest last spans
    c.read_body-found.new.in_order

put : (g : Over) (c : Joined-rank-last-2 g) →
    at.Passed c.singletons.invariant c.advance.new.cursor c.read_body-found.new.spans
    c.if-rank-last.in_order c.read_body-found.new.in_order
    → c.rank_of-rank.result ≡ at.rank_at c.singletons.invariant → (rest : List Text)
    → IsRead (at.byte_at c.singletons.invariant) (whole_text c.args.cursor.now)
    (at.behind c.singletons.invariant) rest
    c.singletons.spans c.read_body-found.new.spans c.if-rank-last.in_order c.read_body-found.new.in_order
    → IsPut g c rest c.if-rank-last-2.last c.if-rank-last-2.spans
put g c x e rest r = elim c.if-rank-last-2.branch [
  | then-rank-last-2 w ↦
      rw w.last-is (subst (IsPut g c rest c.singletons.last) (sym w.spans-is)
      (at.comes_before c.singletons.invariant x rest r c.rank_of-rank.result e w.if-rank-last-2.true
      w.place_block.new.spans w.place_block.ensures.same w.place_block.ensures.placed))
  | else-rank-last-2 w ↦
      rw w.last-is (subst (IsPut g c rest c.rank_of-rank.result) (sym w.spans-is)
      (at.stays_last c.singletons.invariant x rest r c.rank_of-rank.result e w.if-rank-last-2.false))
]

pub singletons-smaller : goal.singletons-smaller
singletons-smaller g c =
    let p = (goal.at.singletons-smaller g c).After-read_body-found in
    let goes_on : c.read_body-found.result ≡ Next =
    elim c.in-End.is [ inl e ↦ absurd (c.in_default.not-End e) | inr e ↦ e ] in
    at.less_at c.singletons.invariant (passed g p) c.read_body-found.new.cursor (read_as g p Next goes_on)

pub singletons-preserved : goal.singletons-preserved
singletons-preserved g c =
    let p = (goal.at.singletons-preserved g c).After-read_body-found in
    let h = c.singletons.invariant in
    let next = c.read_body-found.new.cursor in
    let goes_on : c.read_body-found.result ≡ Next =
    elim c.in-End.is [ inl e ↦ absurd (c.in_default.not-End e) | inr e ↦ e ] in
    let r = read_as g p Next goes_on in
    at.next_at h (passed g p) next r c.if-rank-last-2.last c.if-rank-last-2.spans
    (put g (goal.at.singletons-preserved g c).Joined-rank-last-2 (passed g p) (rank_is g p) (pieces_left next)
    (at.goes_on h (passed g p) next r))

pub returns-in-End-found-clause-read : goal.returns-in-End-found-clause-read
returns-in-End-found-clause-read g c =
    let p = (goal.at.returns-in-End-found-clause-read g c).After-read_body-found in
    all_done c.args.cursor.now c.args.spans.now c.args.in_order.now c.if-rank-last-2.last
    c.if-rank-last-2.spans
    c.read_body-found.new.in_order
    (put g (goal.at.returns-in-End-found-clause-read g c).Joined-rank-last-2 (passed g p) (rank_is g p) []
    (at.ends_here c.singletons.invariant (passed g p) c.read_body-found.new.cursor
    (read_as g p End c.in-End-found.is)))
