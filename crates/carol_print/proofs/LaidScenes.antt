-- Scenes and scripts.
use Rattle.std.proofs.Common.{◌≡◌, ℕ, Bool, true, false, List, [], ◌∷◌, ℤ, refl, sym, ◌∙◌, ap, arith}
use Rattle.std.proofs.lemmas.Bool.Decides.{nat_tests}
use Rattle.std.specs.Prelude.{map, ◌==◌, if◌then◌else◌}
use Rattle.std.specs.List.{AllByRecursion}
use Rattle.carol_grammar.specs.Rule.Rule.{begins}
use Rattle.carol_syntax.specs.declared.places.Ident.{Ident}
use Rattle.carol_syntax.specs.declared.places.Num.{Num}
use Rattle.carol_syntax.specs.declared.scenes.CommandDecl.{CommandDecl}
use Rattle.carol_syntax.specs.declared.scenes.SessionDecl.{SessionDecl}
use Rattle.carol_syntax.specs.declared.scenes.SceneDecl.{SceneDecl}
use Rattle.carol_syntax.specs.declared.scenes.ScriptLine.{ScriptLine}
use Rattle.carol_syntax.specs.declared.scenes.ScriptLine.TheVariants as line_of
use Rattle.carol_syntax.specs.Unplaced.{nowhere, unplaced_number, unplaced_command, unplaced_session, unplaced_scene}
use Rattle.carol_syntax.specs.Shape.{IsLiteral, IsWhole, IsNumber, IsCommand, IsSession, IsScene, IsLine}
use Rattle.carol_syntax.specs.declared.kind.Kind.{Kind}
use Rattle.carol_syntax.specs.declared.kind.Kind.TheVariants as k
use Rattle.carol_grammar.specs.Terminals.{number_of}
use Rattle.carol_grammar.specs.Rules.{int, list_of, some_ints, arguments, times_of, times, command, commands, session, sessions, setting, scene, pair, script_line, line_words, lines, script}
use Rattle.carol_print.specs.Pieces.{Piece, Space, fixed}
use Rattle.carol_print.specs.Canonical as text
use Rattle.carol_print.proofs.Reached.{Same, Reaches, onto, onto-append, is_word_kind, reach_with, reach_gives, reach_both, reach_left, reach_right, reach_word, reach_begins, reach_behind, reach_before, reach_some, reach_none}
use Rattle.carol_print.proofs.Terminals.{reach_name, reach_number, reach_num, reach_int}
use Rattle.carol_print.proofs.ReadLists.{reach_concat, reach_listed}

map_itself : {A : Type 0} (xs : List A) → map (λ x. x) xs ≡ xs
map_itself [] = refl
map_itself (x ∷ xs) = ap (λ ys. x ∷ ys) (map_itself xs)

module _ {bytes : List ℕ} where
  reach_ints : (zs : List ℤ) {us : List Piece} → AllByRecursion IsWhole zs
      → Reaches bytes some_ints (onto (text.with_commas (map text.int zs)) us) us (λ ys. ys ≡ zs)
  unfolding some_ints
  reach_ints [] h = reach_gives (reach_none {Q = λ o. list_of o ≡ []} refl) (λ y e. e)
  reach_ints (z ∷ zs) h =
      reach_gives (reach_some {Q = λ o. list_of o ≡ z ∷ zs} (reach_begins
      (reach_listed int text.int IsWhole (λ x. x) (λ x us i. reach_int x i) (z ∷ zs) (omega arith, h)))
      (λ y e. sym (map_itself y) ∙ e ∙ map_itself (z ∷ zs))) (λ y e. e)

  reach_times : (n : Num) (once : Bool) {us : List Piece} → (n.value == 1) ≡ once → IsNumber n
      → Reaches bytes times (onto (if once then [] else Space ∷ fixed k.Times ∷ Space ∷ text.number n.value ∷ []) us) us
      (λ o. (i : Ident) → unplaced_number (times_of i o) ≡ unplaced_number n)
  unfolding times
  reach_times n true e h =
      let f : 1 ≡ n.value = grind (arith, nat_tests) in reach_none (λ i. ap (λ v. record { value = v; span = nowhere }) f)
  reach_times n false e h = reach_some (reach_behind refl (reach_num n h)) (λ y f i. f)

  reach_command : (c : CommandDecl) {us : List Piece} → IsCommand c
      → Reaches bytes (command bytes) (onto (text.command c) us) us (Same unplaced_command c)
  unfolding command arguments
  reach_command c h =
      simp onto-append (reach_gives (reach_both (reach_name c.name)
      (reach_both (reach_before refl (reach_behind refl (reach_ints c.args h.1)))
      (reach_before refl (reach_times c.times (c.times.value == 1) refl h.2)))) (λ y e. cc (e.1.1 y.0)))

  reach_commands : (xs : List CommandDecl) {us : List Piece} → AllByRecursion IsCommand xs
      → Reaches bytes (commands bytes) (onto (text.concat (map text.command xs)) us) us (Same (map unplaced_command) xs)
  reach_commands =
      reach_concat (begins (number_of k.Name ∷ []) (command bytes)) text.command IsCommand unplaced_command
      (λ c us h. reach_begins (reach_command c h))

  reach_session : (s : SessionDecl) {us : List Piece} → IsSession s
      → Reaches bytes (session bytes) (onto (text.session s) us) us (Same unplaced_session s)
  unfolding session
  reach_session s h =
      simp onto-append (reach_gives (reach_both (reach_word refl)
      (reach_both (reach_behind refl (reach_num s.replica h.0)) (reach_before refl (reach_behind refl (reach_commands s.commands h.1)))))
      (λ y e. cc))

  reach_sessions : (xs : List SessionDecl) {us : List Piece} → AllByRecursion IsSession xs
      → Reaches bytes (sessions bytes) (onto (text.concat (map text.session xs)) us) us (Same (map unplaced_session) xs)
  reach_sessions =
      reach_concat (begins (number_of k.Session ∷ []) (session bytes)) text.session IsSession unplaced_session
      (λ s us h. reach_begins (reach_session s h))

  reach_setting : (kind : Kind) (n : Num) {us : List Piece} → is_word_kind kind ≡ true → IsNumber n
      → Reaches bytes (setting kind) (onto (text.setting kind n) us) us (Same unplaced_number n)
  reach_setting kind n e h = reach_before refl (reach_behind e (reach_num n h))

  pub reach_scene : (s : SceneDecl) {us : List Piece} → IsScene s
      → Reaches bytes (scene bytes) (onto (text.scene s) us) us (Same unplaced_scene s)
  unfolding scene
  reach_scene s h =
      simp onto-append (reach_gives (reach_behind refl (reach_both (reach_setting k.Replicas s.replicas refl h.replicas)
      (reach_both (reach_setting k.Tries s.tries refl h.tries) (reach_both (reach_setting k.Workers s.workers refl h.workers)
      (reach_both (reach_setting k.Gossipers s.gossipers refl h.gossipers) (reach_before refl (reach_sessions s.sessions h.sessions))))))) (λ y e. cc))

  reach_pair : (kind : Kind) (q r : ℕ) {us : List Piece} → is_word_kind kind ≡ true → IsLiteral q → IsLiteral r
      → Reaches bytes (pair kind) (onto (text.pair kind q r) us) us (λ p. (p.0 ≡ q) × (p.1 ≡ r))
  reach_pair kind q r e f g = reach_gives (reach_behind e (reach_both (reach_number q f) (reach_before refl (reach_number r g)))) (λ y h. h)

  reach_line : (l : ScriptLine) {us : List Piece} → IsLine l → Reaches bytes script_line (onto (text.line l) us) us (λ y. y ≡ l)
  unfolding script_line
  reach_line (line_of.Go s) h = reach_left (reach_gives (reach_behind refl (reach_before refl (reach_number s h))) (λ y e. cc))
  reach_line (line_of.Gossip q r) h = reach_right (reach_left (reach_gives (reach_pair k.Gossip q r refl h.0 h.1) (λ y e. cc)))
  reach_line (line_of.Cut q r) h = reach_right (reach_right (reach_left (reach_gives (reach_pair k.Cut q r refl h.0 h.1) (λ y e. cc))))
  reach_line (line_of.Join q r) h = reach_right (reach_right (reach_right (reach_gives (reach_pair k.Join q r refl h.0 h.1) (λ y e. cc))))

  reach_lines : (xs : List ScriptLine) {us : List Piece} → AllByRecursion IsLine xs
      → Reaches bytes lines (onto (text.concat (map text.line xs)) us) us (Same (map (λ y. y)) xs)
  reach_lines = reach_concat (begins line_words script_line) text.line IsLine (λ y. y) (λ l us h. reach_begins (reach_line l h))

  pub reach_script : (xs : List ScriptLine) {us : List Piece} → AllByRecursion IsLine xs
      → Reaches bytes script (onto (text.script xs) us) us (λ ys. ys ≡ xs)
  unfolding script
  reach_script xs h =
      simp onto-append (reach_with (reach_before refl (reach_behind refl (reach_lines xs h)))
      (λ ys e. sym (map_itself ys) ∙ e ∙ map_itself xs))
