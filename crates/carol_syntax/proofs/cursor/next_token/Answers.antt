use Rattle.std.proofs.Common.{arith, ap, sym}
use Rattle.carol_syntax.specs.declared.lexeme.Lexeme.{Lexeme}
use Rattle.carol_syntax.specs.declared.place.Place.{Place}
use Rattle.carol_syntax.proofs.Stepping.{unmet, cut_tail, cut_plain}
use Rattle.carol_syntax.proofs.cursor.next_token.Goals as goal

pub returns-in_default : goal.returns-in_default
returns-in_default c = unmet c.args.here.now.tail _ _ c.if-here.false (sym c.in_default.ensures.token)

pub returns-then-begins_tail : goal.returns-then-begins_tail
returns-then-begins_tail c =
    let here = c.args.here.now in
    let first = sym c.in-Some.ensures.token in
    let tail = sym c.if-begins_tail.ensures in
    let lines = ap (λ (p : Place). p.line) c.over-next.ensures in
    let columns = ap (λ (p : Place). p.column) c.over-next.ensures in
    let moved = ap (λ (p : Place). p.offset) c.over-next.ensures in
    let made = ap (λ (x : Lexeme). x.from) c.make_lexeme-lexeme.ensures in
    let past = ap (λ (x : Lexeme). x.to) c.make_lexeme-lexeme.ensures in
    record {
      cut = λ more stop end h. unmet here.tail _ _ c.if-here.false (cut_tail here.at c.over-next.result here.rest.now c.split_at.result.1.now c.in-Some.found c.make_lexeme-lexeme.result first c.make_lexeme-lexeme.ensures c.over-next.ensures c.split_at.ensures.back tail more stop end h);
      sound = record {
        counted = record { line = omega (arith, lines, moved, c.requires.counted.line); column = omega (arith, columns, moved, c.requires.counted.column) };
        room = omega (arith, moved, c.split_at.ensures.back_len, c.in-Some.ensures.within, c.requires.room);
      };
      from = omega (arith, made);
      bytes = omega (arith, made, past, c.in-Some.ensures.some);
      to = omega (arith, moved, past);
      offset = omega (arith, moved, c.split_at.ensures.back_len, c.in-Some.ensures.within);
      shorter = omega (arith, c.split_at.ensures.back_len, c.in-Some.ensures.some, c.in-Some.ensures.within);
    }

pub returns : goal.returns
returns c =
    let here = c.args.here.now in
    let first = sym c.in-Some.ensures.token in
    let other = sym c.if-begins_tail.ensures in
    let moved = ap (λ (p : Place). p.offset) c.over-next.ensures in
    let made = ap (λ (x : Lexeme). x.from) c.make_lexeme-lexeme.ensures in
    let past = ap (λ (x : Lexeme). x.to) c.make_lexeme-lexeme.ensures in
    record {
      cut = λ more stop end h. unmet here.tail _ _ c.if-here.false (cut_plain here.at c.over-next.result here.rest.now c.split_at.result.1.now c.in-Some.found c.make_lexeme-lexeme.result first c.make_lexeme-lexeme.ensures c.over-next.ensures c.split_at.ensures.back c.behind_space.result.0 c.behind_space.result.1.now c.behind_space.ensures.past other more stop end h);
      sound = record {
        counted = c.behind_space.ensures.counted;
        room = omega (arith, moved, c.split_at.ensures.back_len, c.in-Some.ensures.within, c.behind_space.ensures.offset, c.requires.room);
      };
      from = omega (arith, made);
      bytes = omega (arith, made, past, c.in-Some.ensures.some);
      to = omega (arith, moved, past, c.behind_space.ensures.offset, c.behind_space.ensures.within);
      offset = omega (arith, moved, c.split_at.ensures.back_len, c.in-Some.ensures.within, c.behind_space.ensures.offset);
      shorter = omega (arith, c.split_at.ensures.back_len, c.in-Some.ensures.some, c.in-Some.ensures.within, c.behind_space.ensures.within);
    }
