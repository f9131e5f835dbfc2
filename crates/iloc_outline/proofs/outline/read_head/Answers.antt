-- Variants up to the end or to a block, or what is wrong.
use Rattle.std.proofs.Common.{arith, ◌≡◌, false, sym, ◌∙◌}
use Rattle.iloc_pieces.specs.declared.place.Cursor.{Cursor}
use Rattle.iloc_outline.specs.Identifier.{IsAfterFront, IsFrontRead}
use Rattle.iloc_outline.specs.Reading.{unless_end}
use Rattle.iloc_outline.specs.declared.identifier.Front.{Front}
use Rattle.iloc_outline.proofs.HeadLemmas.{head_block, head_front, head_other, head_stranger, head_variants}
use Rattle.iloc_outline.proofs.outline.read_head.Goals as goal

-- something follows the front
goes_on : (l m : Cursor) (f : Front) → IsFrontRead l m f → f.is_all ≡ false →
    IsAfterFront l (unless_end false m)
goes_on l m f h e = grind arith

pub returns-then-front-clause-read : goal.returns-then-front-clause-read
returns-then-front-clause-read g c = grind (arith, head_front)

pub returns-in-End-clause-read : goal.returns-in-End-clause-read
returns-in-End-clause-read g c =
    let l = c.args.cursor.now in
    let front = c.read_front-front in
    let words = c.read_words in
    head_variants l front.result c.requires.first c.requires.begins front.new.cursor
    front.ensures (goes_on l front.new.cursor front.result front.ensures c.if-front.false)
    c.clear.new.self c.clear.ensures words.new.cursor words.new.spans words.new.in_order
    (rw c.in-End.is at words.ensures.read)

pub returns-else-not-is_single-clause-read : goal.returns-else-not-is_single-clause-read
returns-else-not-is_single-clause-read g c =
    let l = c.args.cursor.now in
    let front = c.read_front-front in
    let words = c.read_words in
    head_block l front.result c.requires.first c.requires.begins front.new.cursor
    front.ensures (goes_on l front.new.cursor front.result front.ensures c.if-front.false)
    c.clear.new.self c.clear.ensures words.new.cursor words.new.spans words.new.in_order
    (rw c.in-Next.is at words.ensures.read)
    (sym c.is_single.ensures ∙ c.if-not-is_single.false)

pub returns-then-not-is_single-clause-read : goal.returns-then-not-is_single-clause-read
returns-then-not-is_single-clause-read g c =
    let l = c.args.cursor.now in
    let front = c.read_front-front in
    let words = c.read_words in
    head_stranger l front.result c.requires.first c.requires.begins front.new.cursor
    front.ensures (goes_on l front.new.cursor front.result front.ensures c.if-front.false)
    c.clear.new.self c.clear.ensures words.new.cursor words.new.spans words.new.in_order
    (rw c.in-Next.is at words.ensures.read)
    (sym c.is_single.ensures ∙ c.if-not-is_single.true)

pub returns-in-Bad-clause-read : goal.returns-in-Bad-clause-read
returns-in-Bad-clause-read g c = search (head_other, goes_on)
