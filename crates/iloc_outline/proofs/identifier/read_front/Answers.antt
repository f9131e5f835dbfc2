use Rattle.std.proofs.Common.{arith, ◌≡◌, ◌==◌, ◌&&◌, Bool, true, false, None, Some, cond, ap, subst, ◌∙◌}
use Rattle.iloc_pieces.specs.declared.place.Cursor.{Cursor}
use Rattle.iloc_outline.specs.Identifier.{IsOnePast}
use Rattle.iloc_outline.specs.Reading.{unless_end}
use Rattle.iloc_outline.proofs.Fronts.{front_read, front_alone, front_to_script, front_to_region}
use Rattle.iloc_pieces.proofs.CursorLemmas.{short_language, short_script, short_region}
use Rattle.iloc_outline.proofs.identifier.read_front.Goals as goal
use Rattle.iloc_outline.proofs.identifier.read_front.Goals.{then-has_region, else-has_region}

-- the text ends with the piece, or goes on
ends : (fits : Bool) (l m : Cursor) (r : Bool) → r ≡ true → IsOnePast fits l (unless_end r m) →
    IsOnePast fits l None
ends fits l m r = subst (λ (b : Bool). IsOnePast fits l (unless_end b m))

goes_on : (fits : Bool) (l m : Cursor) (r : Bool) → r ≡ false → IsOnePast fits l (unless_end r m)
    → IsOnePast fits l (Some m)
goes_on fits l m r = subst (λ (b : Bool). IsOnePast fits l (unless_end b m))

pub ends_at-requires : goal.ends_at-requires
ends_at-requires c = search short_language

pub returns-then-ends_at : goal.returns-then-ends_at
returns-then-ends_at c =
    let l = c.args.cursor.now in
    front_read l c.ends_at.new.cursor true _ _ c.requires
    (grind (arith, front_alone, ends))

pub ends_at-requires-2 : goal.ends_at-requires-2
ends_at-requires-2 c = grind (arith, short_script)

pub returns-then-ends_at-2 : goal.returns-then-ends_at-2
returns-then-ends_at-2 c =
    let l = c.args.cursor.now in
    let second = c.ends_at.new.cursor in
    let has = c.is_script-has_script in
    let next = goes_on true l second _ c.if-ends_at.false c.ends_at.ensures in
    front_read l c.ends_at-2.new.cursor true c.place.result _ c.requires
    (search (front_to_script, ends))

pub ends_at-requires-3 : goal.ends_at-requires-3
ends_at-requires-3 c = grind (arith, short_region)

pub returns-then-ends_at-3 : goal.returns-then-ends_at-3
returns-then-ends_at-3 c =
    let l = c.args.cursor.now in
    let second = c.ends_at.new.cursor in
    let third = c.ends_at-2.new.cursor in
    let has = c.is_script-has_script in
    let fits = c.is_region-has_region in
    let next = goes_on true l second _ c.if-ends_at.false c.ends_at.ensures in
    let two : c.if-has_region.place ≡ (fits.result && (third.piece_length == 2)) =
    grind (arith, then-has_region, else-has_region) in
    front_read l c.ends_at-3.new.cursor true c.place.result c.place-2.result c.requires
    (front_to_region c.requires next has.result has.ensures
    c.place.result c.place.ensures third
    (search goes_on)
    fits.result fits.ensures c.place-2.result
    (c.place-2.ensures ∙ ap (λ (b : Bool). cond b third.at 0) two) None
    (search ends))

pub returns : goal.returns
returns c =
    let l = c.args.cursor.now in
    let second = c.ends_at.new.cursor in
    let third = c.ends_at-2.new.cursor in
    let last = c.ends_at-3.new.cursor in
    let has = c.is_script-has_script in
    let fits = c.is_region-has_region in
    let next = goes_on true l second _ c.if-ends_at.false c.ends_at.ensures in
    let two : c.if-has_region.place ≡ (fits.result && (third.piece_length == 2)) =
    grind (arith, then-has_region, else-has_region) in
    front_read l last false c.place.result c.place-2.result c.requires
    (front_to_region c.requires next has.result has.ensures
    c.place.result c.place.ensures third
    (search goes_on)
    fits.result fits.ensures c.place-2.result
    (c.place-2.ensures ∙ ap (λ (b : Bool). cond b third.at 0) two) (Some last)
    (search goes_on))
