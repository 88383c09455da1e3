-- That the bytes fix the statuses of the answers of `advise`, but for those that tell that something is open.
use Rattle.std.proofs.Common.{◌≡◌, List, ℕ, [], refl, sym, ◌∙◌, ap, subst, inl, inr}
use Rattle.std.specs.Prelude.{◌⊎◌, Option, Some, None, slice_get}
use Rattle.carol_accept.specs.Refusals.{IsKeptAs}
use Rattle.carol_advise.specs.Advised.{HasTooMany, HasTooManyFor}
use Rattle.carol_grammar.specs.Outcome.{Read, Bad, Large}
use Rattle.carol_prepare.specs.Bytes.{BytesSay}
use Rattle.carol_prepare.specs.Named.{NamesSay}
use Rattle.carol_prepare.specs.Parts.{ProgramSays}
use Rattle.carol_prepare.specs.Verdicts.{VerdictSays}
use Rattle.carol_prepare.proofs.Refusals.{refusals_agree, refused_last}
use Rattle.carol_prepare.proofs.Settled.{AreAlike, OneOutcome, program_agree}
use Rattle.carol_program.specs.declared.names.Names.{Names}
use Rattle.carol_program.specs.declared.program.Program.{Program}
use Rattle.carol_program.specs.Rules.{OpRules, Rules, rules_in}
use Rattle.carol_reading.specs.Kept.{Kept}
use Rattle.carol_reply.specs.declared.status.Status.{Status}
use Rattle.carol_reply.specs.declared.status.Status.TheVariants as status
use Rattle.carol_reply.specs.Meaning.{Agree, FixesStatus, FixesText}
use Rattle.carol_reply.specs.Texts.{Answer}
use Rattle.carol_reply.proofs.Agreeing.{Agrees}
use Rattle.carol_syntax.specs.Files.{FileTree, ProgramTree}
use Rattle.carol_advise_word.specs.Advise.{AdviseSays, FoundSays, NameSays, OpSays}
use Rattle.carol_advise_word.specs.Found.{op_named}
use Rattle.carol_advise_word.specs.Laws.{StatusesAreFixed}
use Rattle.carol_advise_word.proofs.Advising.{agree_turned, is_accepted, same_names, same_rules}

-- of these statuses the bytes fix one
abbrev Fixed : Status → Type 0
Fixed meant = FixesStatus (Unit {0}) meant

-- both have one status, where the bytes fix both
abbrev AreSame : Answer → Answer → Type 0
AreSame one other = Fixed one.0 → Fixed other.0 → one.0 ≡ other.0

-- ---- an operation

both_are : (one other : Answer) (meant : Status) → one.0 ≡ meant → other.0 ≡ meant → AreSame one other
both_are one other meant is it f g = is ∙ sym it

first_open : (one other : Answer) (text : List ℕ) → one ≡ (status.Undecided, text) → AreSame one other
first_open one other text is f g = absurd (subst (λ a. Fixed a.0) is f)

last_open : (one other : Answer) (text : List ℕ) → other ≡ (status.Undecided, text) → AreSame one other
last_open one other text is f g = absurd (subst (λ a. Fixed a.0) is g)

many_too : (kept also : Kept) (number : ℕ) → rules_in kept.program ≡ rules_in also.program → HasTooManyFor kept number → HasTooManyFor also number
many_too kept also number same h = subst (λ (p : Rules). (op : OpRules) → slice_get p.ops number ≡ Some op → HasTooMany p op) same h

ops_same : (kept also : Kept) (number : ℕ) → rules_in kept.program ≡ rules_in also.program → (one other : Answer) → OpSays kept number one → OpSays also number other → AreSame one other
ops_same kept also number same one other (inl h) (inl g) = both_are one other status.Text (ap (λ a. a.0) h.1) (ap (λ a. a.0) g.1)
ops_same kept also number same one other (inl h) (inr (inl g)) = absurd (g.few (many_too kept also number same h.0))
ops_same kept also number same one other (inl h) (inr (inr g)) = last_open one other _ g.told
ops_same kept also number same one other (inr (inl h)) (inl g) = absurd (h.few (many_too also kept number (sym same) g.0))
ops_same kept also number same one other (inr (inl h)) (inr (inl g)) = both_are one other status.Ok (ap (λ a. a.0) h.told) (ap (λ a. a.0) g.told)
ops_same kept also number same one other (inr (inl h)) (inr (inr g)) = last_open one other _ g.told
ops_same kept also number same one other (inr (inr h)) g = first_open one other _ h.told

found_same : (kept also : Kept) (found : Option ℕ) → rules_in kept.program ≡ rules_in also.program → (one other : Answer) → FoundSays kept found one → FoundSays also found other → AreSame one other
found_same kept also None same one other h g = both_are one other status.Text (ap (λ a. a.0) h) (ap (λ a. a.0) g)
found_same kept also (Some number) same one other h g = ops_same kept also number same one other h g

-- ---- a program

verdicts_same : (name : List ℕ) (one two : Program) → AreAlike one two → (a b : Answer) → VerdictSays (NameSays name) one a → VerdictSays (NameSays name) two b → AreSame a b
verdicts_same name one two alike a b (inl h) (inl g) = (refusals_agree (Unit {0}) one two a b h g).status
verdicts_same name one two alike a b (inl h) (inr g) =
    (agree_turned (Unit {0}) a b (refused_last (Unit {0}) one b a h (is_accepted two one g.kept (sym alike.rules) g.is_kept))).status
verdicts_same name one two alike a b (inr h) (inl g) = (refused_last (Unit {0}) two a b g (is_accepted one two h.kept alike.rules h.is_kept)).status
verdicts_same name one two alike a b (inr h) (inr g) =
    found_same h.kept g.kept (op_named h.kept.program.names name) (same_rules one two alike h.kept g.kept h.is_kept g.is_kept) a b h.says
    (subst (λ (n : Names). FoundSays g.kept (op_named n name) b) (sym (same_names one two alike h.kept g.kept h.is_kept g.is_kept)) g.says)

-- ---- the bytes: of an answer to a program the status alone is looked at

-- the answer has the status of one to the program, and no text
pub record HasStatus (name : List ℕ) (program : Program) (bare : Answer) : Type 0 where
  pub answer : Answer
  pub says : VerdictSays (NameSays name) program answer
  pub has : bare.0 ≡ answer.0
  pub blank : bare.1 ≡ []

bare_agree : (name : List ℕ) (one two : Program) → AreAlike one two → Agrees (Unit {0}) (HasStatus name one) (HasStatus name two)
bare_agree name one two alike other answer h g = record {
  status = λ f k. h.has ∙ (verdicts_same name one two alike h.answer g.answer h.says g.says (subst Fixed h.has f) (subst Fixed g.has k) ∙ sym g.has);
  text = λ f same. h.blank ∙ sym g.blank;
}

-- the same with its text, or without
pub record IsBare (said : Answer → Type 0) (answer : Answer) : Type 0 where
  pub bare : Answer
  pub says : said bare
  pub has : bare.0 ≡ answer.0

names_bare : (name : List ℕ) (tree : ProgramTree) (answer : Answer) → NamesSay (VerdictSays (NameSays name)) tree answer → IsBare (NamesSay (HasStatus name) tree) answer
names_bare name tree answer (inl h) = record { bare = answer; says = inl h; has = refl }
names_bare name tree answer (inr h) = record {
  bare = (answer.0, []);
  says = inr (record { program = h.program; is_program = h.is_program; says = record { answer = answer; says = h.says; has = refl; blank = refl } });
  has = refl;
}

bytes_bare : (name bytes : List ℕ) (answer : Answer) → AdviseSays name bytes answer → IsBare (ProgramSays (HasStatus name) bytes) answer
bytes_bare name bytes answer (Read file, means, h) =
    let bare = names_bare name file.program answer h in record { bare = bare.bare; says = (Read file, means, bare.says); has = bare.has }
bytes_bare name bytes answer (Bad row column, means, h) = record { bare = answer; says = (Bad row column, means, h); has = refl }
bytes_bare name bytes answer (Large limit, means, h) = record { bare = answer; says = (Large limit, means, h); has = refl }

pub statuses : OneOutcome → StatusesAreFixed
statuses once name bytes one other h g f k =
    let a = bytes_bare name bytes one h in
    let b = bytes_bare name bytes other g in
    let same = program_agree once (Unit {0}) (HasStatus name) (bare_agree name) bytes a.bare b.bare a.says b.says in
    sym a.has ∙ (same.status (subst Fixed (sym a.has) f) (subst Fixed (sym b.has) k) ∙ b.has)
