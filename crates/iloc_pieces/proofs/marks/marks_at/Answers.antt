use Rattle.std.proofs.Common.{◌≡◌, ◌+◌, ◌≤◌, [], ◌∷◌, length, take, drop, sym, ap, ◌∙◌, subst, inl, arith}
use Rattle.std.proofs.lemmas.List.{length-append, length-drop, length-take-le, take-append-le, take-take, take_all}
use Rattle.iloc_pieces.specs.Marks.{AreMarks, closed}
use Rattle.iloc_pieces.proofs.marks.marks_at.Goals as goal
use Rattle.iloc_spec_grammar.specs.Syntax.{Text}

pub returns-then-left-lt16 : goal.returns-then-left-lt16
returns-then-left-lt16 c =
    let rest = take c.args.left (drop c.args.at c.args.window.now) in
    let v = c.load_at.result in
    let few : length rest ≡ c.args.left =
    grind (arith, length-take-le, length-drop) in
    let long : length (closed rest) ≤ c.args.left + 1 = omega (arith, length-append rest (45 ∷ [])) in
    let same : take c.args.left v ≡ rest = c.load_at.ensures.front c.args.left (omega arith) (omega arith) in
    let all : closed (take c.args.left v) ≡ take (c.args.left + 1) (closed rest) =
    ap closed same ∙ sym (take_all (c.args.left + 1) (closed rest) long) in
    grind arith

pub returns-else-left-lt16 : goal.returns-else-left-lt16
returns-else-left-lt16 c =
    let u = drop c.args.at c.args.window.now in
    let rest = take c.args.left u in
    let v = c.load_at.result in
    let few : length rest ≡ c.args.left =
    length-take-le c.args.left u (omega (arith, length-drop c.args.at c.args.window.now)) in
    let all : v ≡ take 16 (closed rest) =
    sym (take_all 16 v (omega (arith, c.load_at.ensures.wide)))
    ∙ c.load_at.ensures.front 16 (omega arith) (omega arith)
    ∙ sym (take-take 16 c.args.left u (omega arith)) ∙ sym (take-append-le 16 rest (45 ∷ []) (omega arith)) in
    record {
      known = 16;
      few = omega arith;
      enough = inl (omega arith);
      marks = subst (λ (t : Text). AreMarks t c.marks_of-marks.result) all c.marks_of-marks.ensures;
    }
