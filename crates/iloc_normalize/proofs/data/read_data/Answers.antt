use Rattle.std.proofs.Common.{◌≡◌, ◌+◌, inl, inr, Bool, false, true, [], ◌∷◌, refl, sym, ◌∙◌, subst, arith}
use Rattle.iloc_pieces.specs.Cursor.{piece_left}
use Rattle.iloc_pieces.specs.declared.place.Cursor.{Cursor}
use Rattle.iloc_pieces.proofs.CursorLemmas.{last_piece, length_piece, next_at, short_variant}
use Rattle.iloc_outline.specs.Identifier.{IsAfterFront, IsFrontRead}
use Rattle.iloc_outline.specs.Reading.{unless_end}
use Rattle.iloc_outline.specs.declared.identifier.Front.{Front}
use Rattle.iloc_normalize.proofs.Reading.{all_front, at_front, end_there, front_head, pieces_there, read_alone, read_on, varied_head, window_there, within_there}
use Rattle.iloc_normalize.proofs.data.read_data.Goals as goal
use Rattle.iloc_normalize.proofs.data.read_data.Goals.{then-is_variant+else-is_last, else-is_variant}

-- whether something follows the front
follows : (l m : Cursor) (f : Front) (all : Bool) → IsFrontRead l m f → f.is_all ≡ all
    → IsAfterFront l (unless_end all m)
follows l m f all h e = subst (λ (b : Bool). IsAfterFront l (unless_end b m)) e h.next

pub returns-then-front : goal.returns-then-front
returns-then-front c =
    let w = c.args.window.now in
    let len = c.args.len in
    let l = c.cursor_in-cursor.result in
    let e = c.cursor_in-cursor.ensures in
    let m = c.read_front-front.new.cursor in
    let f = c.read_front-front.result in
    let read = c.read_front-front.ensures in
    let cut = all_front w len c.requires.inside c.requires.begins l e.rest e.at e.remaining e.window m f
    read
    (follows l m f true read c.if-front.true) in
    read_alone w len c.requires.begins [] tt (omega arith) (record { front = f; end = f.end })
    (search front_head) cut
    (let a = read.inside in let b = e.at in let d = e.remaining in omega (arith, a, b, d))

pub overflow_add-head : goal.overflow_add-head
overflow_add-head c = grind (arith, within_there, follows)

pub returns-then-is_last : goal.returns-then-is_last
returns-then-is_last c =
    let w = c.args.window.now in
    let len = c.args.len in
    let l = c.cursor_in-cursor.result in
    let e = c.cursor_in-cursor.ensures in
    let m = c.read_front-front.new.cursor in
    let f = c.read_front-front.result in
    let read = c.read_front-front.ensures in
    let after = follows l m f false read c.if-front.false in
    let word = sym c.is_variant.ensures ∙ c.if-is_variant.true in
    let last = last_piece m (c.is_last.ensures.0 c.if-is_last.true) (short_variant _ word) in
    let cut = pieces_there w len c.requires.inside c.requires.begins l e.rest e.at e.remaining e.window m
    f read after ∙ last.one in
    read_alone w len c.requires.begins (piece_left m ∷ []) (word, tt) (omega arith) (record {
      front =
          f;
      end = m.at + m.piece_length;
    })
    (search varied_head) cut
    (grind arith)

pub advance-requires-clause-short : goal.advance-requires-clause-short
advance-requires-clause-short c = short_variant _ (sym c.is_variant.ensures ∙ c.if-is_variant.true)

pub returns : goal.returns
returns c =
    let w = c.args.window.now in
    let len = c.args.len in
    let l = c.cursor_in-cursor.result in
    let e = c.cursor_in-cursor.ensures in
    let m = c.read_front-front.new.cursor in
    let f = c.read_front-front.result in
    let read = c.read_front-front.ensures in
    let after = follows l m f false read c.if-front.false in
    let there = pieces_there w len c.requires.inside c.requires.begins l e.rest e.at e.remaining e.window
    m f read after in
    let at = at_front w len c.requires.inside c.requires.begins l e.rest e.at e.remaining e.window m f
    read after in
    let end = end_there w len c.requires.inside c.requires.begins l e.rest e.at e.remaining e.window m f
    read after in
    let window = window_there w len c.requires.inside c.requires.begins l e.rest e.at e.remaining e.window
    m f read after in
    elim c.if-is_variant.branch [
      | then-is_variant+else-is_last x ↦
          let word = sym c.is_variant.ensures ∙ x.if-is_variant.true in
          let k = x.advance.new.cursor in
          let n = x.advance.ensures in
          let cut = there ∙ n.pieces in
          let next = next_at m k n in
          let size = length_piece m (short_variant _ word) in
          let stop = n.end in
          read_on w len c.requires.begins (piece_left m ∷ []) (word, tt) (omega arith) (record {
            front =
                f;
            end = m.at + m.piece_length;
          })
          (search varied_head)
          k cut (n.window ∙ window) (omega (arith, next, size)) (omega (arith, stop, end)) (inr refl)
          c.read_block.result (grind arith)
      | else-is_variant x ↦
          let other = sym c.is_variant.ensures ∙ x.if-is_variant.false in
          read_on w len c.requires.begins [] tt (omega arith) (record { front = f; end = f.end })
          (search front_head)
          m there window at end (inl (refl, other))
          c.read_block.result (grind arith)
    ]
