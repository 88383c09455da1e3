-- What stands around the marks.
use Rattle.std.specs.Prelude.{ℕ, ◌+◌, ◌*◌, min, max, List, [], ◌∷◌, ◌++◌, codes, length, flat_map}
use Rattle.std.specs.List.{range_with_len}
use Rattle.carol_program.specs.declared.names.Names.{Names}
use Rattle.carol_program.specs.Rules.{Rules}
use Rattle.carol_program.specs.declared.scenes.Scene.{Scene}
use Rattle.carol_program.specs.declared.scenes.SessionPlan.{SessionPlan}
use Rattle.carol_event.specs.declared.event.Event.{Event}
use Rattle.carol_picture.specs.Columns.{name_row, row_width, store_row}
use Rattle.carol_picture.specs.Elements.{line_element, text_element}
use Rattle.carol_picture.specs.Labels.{label}
use Rattle.carol_picture.specs.Places.{lane_width, lane_x, replica_x, row_y, session_x}
use Rattle.carol_picture.specs.Style.{style}
use Rattle.carol_picture.specs.Texts.{numbered}

-- how large an image is, and the end of the tag with which it begins
unfoldable pub measures : ℕ → ℕ → List ℕ
measures width height =
    numbered (codes " width='") width ++ (numbered (codes "' height='") height
    ++ (numbered (codes "' viewBox='0 0 ") width ++ (numbered (codes " ") height
    ++ (codes "'>" ++ 10 ∷ []))))

-- the beginning of an image of this size
unfoldable pub size : ℕ → ℕ → List ℕ
size width height =
    codes "<svg xmlns='http://www.w3.org/2000/svg' xml:space='preserve'" ++ measures width height

-- how many characters the longest label has, from 12 to 1,000
abbrev pub widest_from : Rules → Names → ℕ → List Event → ℕ
widest_from p names longest [] = longest
widest_from p names longest (event ∷ events) =
    widest_from p names (max longest (min (length (label p names event)) 1_000)) events

abbrev pub widest : Rules → Names → List Event → ℕ
widest p names events = widest_from p names 12 events

-- how wide the texts of the rows are
abbrev pub text_width : Names → ℕ → ℕ
text_width names longest = 8 * (row_width names.cells + longest + 3)

-- the lane of a replica, down to this height: its ground, its name, and the replica itself
unfoldable pub lane : List SessionPlan → ℕ → ℕ → List ℕ
lane plans bottom replica =
    let left = lane_x plans replica in
    let right = left + lane_width plans replica in
    let middle = replica_x plans replica in
    line_element (codes "lane")
    (left ∷ 52 ∷ right ∷ 52 ∷ right ∷ bottom ∷ left ∷ bottom ∷ [])
    ++ (text_element (codes "head") left 24 (numbered (codes "replica ") replica)
    ++ line_element (codes "replica") (middle ∷ 52 ∷ middle ∷ bottom ∷ []))

abbrev pub lanes : List SessionPlan → ℕ → ℕ → List ℕ
lanes plans replicas bottom = flat_map (lane plans bottom) (range_with_len 0 replicas)

-- the column of a session: its name, and a line
unfoldable pub column : List SessionPlan → ℕ → ℕ → List ℕ
column plans bottom session =
    text_element (codes "place") (session_x plans session) 46 (numbered (codes "s") session)
    ++ line_element (codes "session")
    (session_x plans session ∷ 52 ∷ session_x plans session ∷ bottom ∷ [])

abbrev pub columns : List SessionPlan → ℕ → List ℕ
columns plans bottom = flat_map (column plans bottom) (range_with_len 0 (length plans))

-- the names of the cells and their initial values, behind the lanes
unfoldable pub start : Rules → Names → ℕ → List ℕ
start p names x =
    text_element (codes "head") x 46 (name_row names.cells)
    ++ text_element (codes "row") x 68
    (store_row names.cells p.initial ++ codes "  at the start")

-- what stands before the marks
unfoldable pub head : Rules → Names → Scene → List Event → List ℕ
head p names scene events =
    let text = lane_x scene.sessions scene.replicas in
    let bottom = row_y (length events) in
    size (text + text_width names (widest p names events)) (bottom + 8)
    ++ (style ++ (lanes scene.sessions scene.replicas bottom
    ++ (columns scene.sessions bottom ++ start p names text)))
