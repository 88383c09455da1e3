-- The faults of a command, and those of a list of commands or sessions from one of them on.
use Rattle.std.proofs.Common.{◌≡◌, ◌<◌, ℕ, zero, suc, ◌+◌, List, [], ◌∷◌, length, get_or, drop, map, refl, sym, ◌∙◌, ap, subst}
use Rattle.std.specs.Prelude.{Some, Option, slice_get, option_map, option_and_then}
use Rattle.std.specs.List.{AllByRecursion}
use Rattle.std.proofs.lemmas.Option.{slice_get-map, slice_get_read}
use Rattle.carol_syntax.specs.declared.scenes.CommandDecl.{CommandDecl}
use Rattle.carol_syntax.specs.declared.scenes.SessionDecl.{SessionDecl}
use Rattle.carol_store.specs.declared.shape.CellKind.{CellKind}
use Rattle.carol_program.specs.declared.names.Names.{Names}
use Rattle.carol_program.specs.declared.program.Op.{Op}
use Rattle.carol_program.specs.Rules.{OpRules, Rules, op_rules}
use Rattle.carol_program.specs.WellFormed.{IsOpOver}
use Rattle.carol_scenario.specs.declared.error.SceneError.{SceneError}
use Rattle.carol_scenario.specs.Meaning.{number_called}
use Rattle.carol_scenario.specs.Faults.{Refuses, op_called, name_faults, arity_faults, times_faults, total_faults, call_faults, command_faults, commands_faults, session_faults, sessions_faults, times_in}
use Rattle.carol_scenario.proofs.Firsts.{none_of, refuses_more, refuses_behind, item_at}

-- ---- the operation of a command

each_at : {A : Type 0} (P : A → Type 0) (xs : List A) (i : ℕ) (x : A) → AllByRecursion P xs → slice_get xs i ≡ Some x → P x
each_at P [] i x h e = absurd cc
each_at P (y ∷ ys) zero x h e = let same : y ≡ x = cc in subst P same h.0
each_at P (y ∷ ys) (suc i) x h e = each_at P ys i x h.1 e

-- an operation of a program, by its number
rules_at : (ops : List Op) (n : ℕ) (op : Op) → n < length ops → op ≡ get_or ops n op → slice_get (map op_rules ops) n ≡ Some (op_rules op)
rules_at ops n op lt is = slice_get-map op_rules ops n ∙ ap (option_map op_rules) (slice_get_read ops (length ops) n op refl lt is)

pub op_over : (kinds : List CellKind) (guards : ℕ) (ops : List Op) (n : ℕ) (op : Op) → AllByRecursion (IsOpOver kinds guards) (map op_rules ops) → n < length ops → op ≡ get_or ops n op → IsOpOver kinds guards (op_rules op)
op_over kinds guards ops n op h lt is = each_at (IsOpOver kinds guards) (map op_rules ops) n (op_rules op) h (rules_at ops n op lt is)

-- the operation that is called
pub called_at : (p : Rules) (names : Names) (word : List ℕ) (ops : List Op) (n : ℕ) (op : Op) → p.ops ≡ map op_rules ops → number_called names word ≡ Some n → n < length ops → op ≡ get_or ops n op → op_called p names word ≡ Some (op_rules op)
called_at p names word ops n op e number lt is = ap (option_and_then (λ n. slice_get p.ops n)) number ∙ ap (λ xs. slice_get xs n) e ∙ rules_at ops n op lt is

-- ---- the rules of a command, one after the other

-- nothing is wrong with the name, the number of arguments, the times and the total
pub record Reaches (called : Option OpRules) (before : ℕ) (c : CommandDecl) : Type 0 where
  pub name : name_faults called c ≡ []
  pub arity : arity_faults called c ≡ []
  pub times : times_faults c ≡ []
  pub total : total_faults before c ≡ []

pub command_right : (p : Rules) (names : Names) (session earlier command : ℕ) (c : CommandDecl) (op : OpRules) → op_called p names c.name.word ≡ Some op → Reaches (op_called p names c.name.word) (earlier + command) c → call_faults (Some op) session command c.args ≡ [] → command_faults p names session earlier command c ≡ []
command_right p names session earlier command c op called h right =
    none_of _ _ h.name (none_of _ _ h.arity (none_of _ _ h.times (none_of _ _ h.total (ap (λ o. call_faults o session command c.args) called ∙ right))))

pub command_refused : (p : Rules) (names : Names) (session earlier command : ℕ) (c : CommandDecl) (op : OpRules) (e : SceneError) → op_called p names c.name.word ≡ Some op → Reaches (op_called p names c.name.word) (earlier + command) c → Refuses (call_faults (Some op) session command c.args) e → Refuses (command_faults p names session earlier command c) e
command_refused p names session earlier command c op e called h wrong =
    refuses_behind _ _ e h.name (refuses_behind _ _ e h.arity (refuses_behind _ _ e h.times (refuses_behind _ _ e h.total (subst (λ o. Refuses (call_faults o session command c.args) e) (sym called) wrong))))

-- ---- from one of the declarations on

pub commands_refused : (p : Rules) (names : Names) (session earlier command : ℕ) (cs : List CommandDecl) (i : ℕ) (c : CommandDecl) (whole : List SceneError) (e : SceneError) → i < length cs → c ≡ get_or cs i c → commands_faults p names session earlier command (drop i cs) ≡ whole → Refuses (command_faults p names session earlier command c) e → Refuses whole e
commands_refused p names session earlier command cs i c whole e lt is so_far wrong =
    subst (λ faults. Refuses faults e) (ap (commands_faults p names session earlier command) (sym (item_at cs i c lt is)) ∙ so_far) (refuses_more (command_faults p names session earlier command c) (commands_faults p names session earlier (command + c.times.value) (drop (i + 1) cs)) e wrong)

pub sessions_refused : (p : Rules) (names : Names) (replicas session earlier : ℕ) (ss : List SessionDecl) (i : ℕ) (s : SessionDecl) (whole : List SceneError) (e : SceneError) → i < length ss → s ≡ get_or ss i s → sessions_faults p names replicas session earlier (drop i ss) ≡ whole → Refuses (session_faults p names replicas session earlier s) e → Refuses whole e
sessions_refused p names replicas session earlier ss i s whole e lt is so_far wrong =
    subst (λ faults. Refuses faults e) (ap (sessions_faults p names replicas session earlier) (sym (item_at ss i s lt is)) ∙ so_far) (refuses_more (session_faults p names replicas session earlier s) (sessions_faults p names replicas (session + 1) (earlier + times_in s.commands) (drop (i + 1) ss)) e wrong)
