-- What an image is made of: lines through points, and texts at points. How those of a class look is
-- said by the image's style.
use Rattle.std.specs.Prelude.{ℕ, List, [], ◌∷◌, ◌++◌, codes, flat_map}
use Rattle.carol_picture.specs.Texts.{escaped, numbered}

-- numbers, one space before each
abbrev pub numbers_text : List ℕ → List ℕ
numbers_text numbers = flat_map (numbered (codes " ")) numbers

-- what stands before the numbers of a line of this class
unfoldable pub line_head : List ℕ → List ℕ
line_head class = codes "<polyline class='" ++ (class ++ codes "' points='")

-- a line of this class through the points whose numbers these are
unfoldable pub line_element : List ℕ → List ℕ → List ℕ
line_element class points = line_head class ++ (numbers_text points ++ (codes "'/>" ++ 10 ∷ []))

-- what stands before the words of a text of this class at a point
unfoldable pub text_head : List ℕ → ℕ → ℕ → List ℕ
text_head class x y =
    codes "<text class='" ++ (class ++ (numbered (codes "' x='") x ++ (numbered (codes "' y='") y ++
    codes "'>")))

-- a text of this class at a point
unfoldable pub text_element : List ℕ → ℕ → ℕ → List ℕ → List ℕ
text_element class x y text =
    text_head class x y ++ (escaped text ++ (codes "</text>" ++ 10 ∷ []))
