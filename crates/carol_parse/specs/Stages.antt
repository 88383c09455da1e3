-- What the trees of a scene and of what stands behind it are to the rules.
use Rattle.std.specs.Prelude.{Option, option_map}
use Rattle.carol_syntax.specs.declared.scenes.SceneDecl.{SceneDecl}
use Rattle.carol_grammar.specs.Rules as rules
use Rattle.carol_parse.specs.declared.stages.Sequel.{Sequel}
use Rattle.carol_parse.specs.declared.stages.Sequel.TheVariants.{Script, Transcript}
use Rattle.carol_parse.specs.declared.stages.Stage.{Stage}

abbrev pub sequel_of : Sequel → rules.Sequel
sequel_of (Script lines) = rules.Scripted lines
sequel_of Transcript = rules.Recorded

abbrev pub some_sequel_of : Option Sequel → Option rules.Sequel
some_sequel_of = option_map sequel_of

-- the scene, and then its sequel
abbrev pub stage_of : Stage → SceneDecl × Option rules.Sequel
stage_of stage = (stage.scene, some_sequel_of stage.sequel)

abbrev pub some_stage_of : Option Stage → Option (SceneDecl × Option rules.Sequel)
some_stage_of = option_map stage_of
