-- How the lines and texts of each class look, and the ground on which they stand.
use Rattle.std.specs.Prelude.{ℕ, List, [], ◌∷◌, ◌++◌, codes, flat_map}

-- each of these on a line of its own
abbrev pub lines_text : List (List ℕ) → List ℕ
lines_text lines = flat_map (λ line. line ++ 10 ∷ []) lines

unfoldable pub style : List ℕ
style = lines_text (
    codes "<style>" ∷
    codes "text { font: 12px 'DejaVu Sans Mono', Menlo, Consolas, monospace; fill: #000; }" ∷
    codes ".head { font-weight: bold; }" ∷
    codes ".place { text-anchor: middle; fill: #444; }" ∷
    codes ".number { text-anchor: end; fill: #444; }" ∷
    codes "polyline { fill: none; stroke: #000; stroke-width: 1.5; }" ∷
    codes ".lane { fill: #eee; stroke: none; }" ∷
    codes ".replica { stroke: #888; stroke-width: 3; }" ∷
    codes ".session { stroke: #bbb; stroke-width: 1; }" ∷
    codes ".grant { stroke: #56b4e9; stroke-width: 10; stroke-linecap: square; }" ∷
    codes ".query { marker-end: url(#query); }" ∷
    codes ".issue { marker-end: url(#issue); }" ∷
    codes ".release { marker-end: url(#release); }" ∷
    codes ".return { marker-end: url(#return); }" ∷
    codes ".barred { stroke: #d55e00; stroke-dasharray: 4 3; }" ∷
    codes ".barred { marker-start: url(#bars); marker-end: url(#refuse); }" ∷
    codes ".behind { stroke: #d55e00; stroke-dasharray: 1 3; marker-end: url(#refuse); }" ∷
    codes ".deliver { stroke: #0072b2; stroke-width: 2; marker-end: url(#deliver); }" ∷
    codes ".cut { stroke-dasharray: 6 4; marker-start: url(#end); marker-end: url(#end); }" ∷
    codes ".join { marker-start: url(#end); marker-end: url(#end); }" ∷
    codes "marker path { fill: none; stroke: #000; stroke-width: 3; }" ∷
    codes "marker .white { fill: #fff; stroke: #000; stroke-width: 1.5; }" ∷
    codes "marker .red { stroke: #d55e00; }" ∷
    codes "marker .blue { fill: #0072b2; stroke: none; }" ∷
    codes "</style>" ∷
    codes "<defs>" ∷
    codes "<marker id='query' markerWidth='14' markerHeight='14' refX='7' refY='7'" ∷
    codes "markerUnits='userSpaceOnUse'><circle class='white' cx='7' cy='7' r='4.5'/></marker>" ∷
    codes "<marker id='issue' markerWidth='14' markerHeight='14' refX='7' refY='7'" ∷
    codes "markerUnits='userSpaceOnUse'><circle cx='7' cy='7' r='5.5'/></marker>" ∷
    codes "<marker id='release' markerWidth='16' markerHeight='14' refX='8' refY='7'" ∷
    codes "markerUnits='userSpaceOnUse'><path d='M0 7h16'/></marker>" ∷
    codes "<marker id='return' markerWidth='14' markerHeight='14' refX='7' refY='7'" ∷
    codes "markerUnits='userSpaceOnUse'><rect x='2' y='2' width='10' height='10'/></marker>" ∷
    codes "<marker id='refuse' markerWidth='14' markerHeight='14' refX='7' refY='7'" ∷
    codes "markerUnits='userSpaceOnUse'><path class='red' d='M2 2l10 10m0 -10l-10 10'/></marker>" ∷
    codes "<marker id='bars' markerWidth='14' markerHeight='16' refX='7' refY='8'" ∷
    codes "markerUnits='userSpaceOnUse'><path class='red' d='M7 0v16'/></marker>" ∷
    codes "<marker id='deliver' markerWidth='12' markerHeight='12' refX='11' refY='6'" ∷
    codes "orient='auto' markerUnits='userSpaceOnUse'>" ∷
    codes "<path class='blue' d='M0 1l11 5l-11 5z'/></marker>" ∷
    codes "<marker id='end' markerWidth='8' markerHeight='14' refX='4' refY='7'" ∷
    codes "markerUnits='userSpaceOnUse'><path d='M4 1v12'/></marker>" ∷
    codes "<pattern id='rows' y='94' width='8' height='40' patternUnits='userSpaceOnUse'>" ∷
    codes "<rect width='8' height='20' fill-opacity='0.05'/></pattern>" ∷
    codes "</defs>" ∷
    codes "<rect width='100%' height='100%' fill='#fff'/>" ∷
    codes "<rect y='74' width='100%' height='100%' fill='url(#rows)'/>" ∷ [])
