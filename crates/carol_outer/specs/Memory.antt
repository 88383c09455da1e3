-- What a source over memory still has to give, and what a sink over memory took.
use Rattle.std.specs.Prelude.{ℕ, Bool, List, ◌++◌, ◌-◌, ◌==◌, ◌||◌, ◌&&◌, min, length, take, drop, nat_lt}
use Rattle.std.specs.List.{list_any}
use Rattle.carol_outer.specs.Faults.{one_more}

-- A source over memory as a caller sees it.
pub record Feed : Type 0 where
  -- the bytes that are left
  pub rest : List ℕ
  -- at most so many bytes are given in one call
  pub most : ℕ
  -- the numbers of the calls that fail
  pub listed : List ℕ
  -- the number of the next call
  pub call : ℕ
  -- how many calls failed
  pub failures : ℕ

-- the next call is one of those that fail
abbrev pub fails_next : Feed → Bool
fails_next f = list_any (λ n. n == f.call) f.listed

-- how many bytes the next call gives into so much room, where it does not fail
abbrev pub gives_next : Feed → ℕ → ℕ
gives_next f room = min (min f.most room) (length f.rest)

-- the source after a call that gave n bytes
abbrev pub after_giving : Feed → ℕ → Feed
after_giving f n = record f { rest = drop n f.rest; call = one_more f.call }

-- the source after a call that failed
abbrev pub after_failing : Feed → Feed
after_failing f = record f { call = one_more f.call; failures = one_more f.failures }

-- A sink over memory as a caller sees it.
pub record Shelf : Type 0 where
  -- the bytes that it took
  pub held : List ℕ
  -- how many bytes it has room for in all
  pub room : ℕ
  -- at most so many bytes are taken in one call
  pub most : ℕ
  -- the numbers of the calls that fail
  pub listed : List ℕ
  -- the number of the next call
  pub call : ℕ
  -- how many calls failed
  pub failures : ℕ

-- the next call, on this piece, fails: it is listed, or there is no room left for a piece with
-- bytes
abbrev pub refuses_next : Shelf → List ℕ → Bool
refuses_next s piece = list_any (λ n. n == s.call) s.listed
    || (nat_lt 0 (length piece) && (length s.held == s.room))

-- how many bytes of a piece the next call takes, where it does not fail
abbrev pub takes_next : Shelf → List ℕ → ℕ
takes_next s piece = min (min s.most (length piece)) (s.room - length s.held)

-- the sink after a call that took n bytes of a piece
abbrev pub after_taking : Shelf → List ℕ → ℕ → Shelf
after_taking s piece n = record s { held = s.held ++ take n piece; call = one_more s.call }

-- the sink after a call that failed
abbrev pub after_refusing : Shelf → Shelf
after_refusing s = record s { call = one_more s.call; failures = one_more s.failures }
