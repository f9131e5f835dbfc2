use Rattle.std.proofs.Common.{[], length, ap, ◌∙◌, arith, take_all}
use Rattle.iloc_spec_grammar.specs.Syntax.{pieces}
use Rattle.iloc_expected.proofs.Walk.{read_starts, stopped_is}
use Rattle.iloc_expected.proofs.Ending.{all_is, empty_is, piece_none, piece_short, refused_is}
use Rattle.iloc_expected.proofs.reading.read.Goals as goal

pub returns-in_default : goal.returns-in_default
returns-in_default g c =
    let t = c.args.text.now in
    let all = ap pieces (c.cursor_in.ensures.rest ∙ take_all (length t) t (omega arith)) in
    stopped_is c.args.mode t c.cursor_in.result all
    (c.in_default.ensures [] (read_starts c.args.mode c.cursor_in.result))

pub returns-then-last-eq0 : goal.returns-then-last-eq0
returns-then-last-eq0 g c =
    let t = c.args.text.now in
    let all = ap pieces (c.cursor_in.ensures.rest ∙ take_all (length t) t (omega arith)) in
    let x = c.in-Some.ensures [] (read_starts c.args.mode c.cursor_in.result) in
    empty_is c.args.mode t c.cursor_in.result c.in-Some.last c.in-Some.reading all x.0 c.if-last-eq0.true

pub read_piece-requires : goal.read_piece-requires
read_piece-requires g c =
    let x = c.in-Some.ensures [] (read_starts c.args.mode c.cursor_in.result) in
    (x.0.up_to.variants, x.0.up_to.seen, x.0.up_to.read)

pub returns-then-is_none : goal.returns-then-is_none
returns-then-is_none g c =
    let t = c.args.text.now in
    let all = ap pieces (c.cursor_in.ensures.rest ∙ take_all (length t) t (omega arith)) in
    let x = c.in-Some.ensures [] (read_starts c.args.mode c.cursor_in.result) in
    let u = x.0.up_to in
    refused_is c.args.mode t c.cursor_in.result c.in-Some.last c.in-Some.reading all x.0 x.1
    c.if-last-eq0.false
    (piece_none c.args.mode c.in-Some.reading.keyed c.in-Some.reading.state.part u.variants
    u.seen c.in-Some.last c.read_piece.result c.is_none.result c.is_none.ensures c.if-is_none.true
    (c.read_piece.ensures u.variants u.seen u.read))

pub read_last-requires-clause-short : goal.read_last-requires-clause-short
read_last-requires-clause-short g c =
    let x = c.in-Some.ensures [] (read_starts c.args.mode c.cursor_in.result) in
    let u = x.0.up_to in
    piece_short c.args.mode c.in-Some.reading.keyed c.in-Some.reading.state.part u.variants
    u.seen c.in-Some.last c.read_piece.result c.is_none.result c.is_none.ensures c.if-is_none.false
    (c.read_piece.ensures u.variants u.seen u.read)

pub read_last-requires-clause-last : goal.read_last-requires-clause-last
read_last-requires-clause-last g c =
    (c.in-Some.ensures [] (read_starts c.args.mode c.cursor_in.result)).1

pub read_last-requires-clause-read : goal.read_last-requires-clause-read
read_last-requires-clause-read g c =
    let x = c.in-Some.ensures [] (read_starts c.args.mode c.cursor_in.result) in (x.0.done, x.0.up_to)

pub returns : goal.returns
returns g c =
    let t = c.args.text.now in
    let all = ap pieces (c.cursor_in.ensures.rest ∙ take_all (length t) t (omega arith)) in
    let x = c.in-Some.ensures [] (read_starts c.args.mode c.cursor_in.result) in
    let u = x.0.up_to in
    let short = piece_short c.args.mode c.in-Some.reading.keyed c.in-Some.reading.state.part u.variants
    u.seen c.in-Some.last c.read_piece.result c.is_none.result c.is_none.ensures c.if-is_none.false
    (c.read_piece.ensures u.variants u.seen u.read) in
    all_is c.args.mode t c.cursor_in.result c.in-Some.last c.in-Some.reading all x.0 x.1
    c.if-last-eq0.false short c.read_last.result (c.read_last.ensures x.0.done u)
