-- The style of a page: one fixed text, without `<`.
use Rattle.std.specs.Prelude.{ℕ, List, ◌∷◌, [], ◌++◌, codes}

-- a line of the style
abbrev pub style_line : List ℕ → List ℕ
style_line text = text ++ 10 ∷ []

unfoldable pub style_text : List ℕ
style_text =
    style_line (codes ":root{color-scheme:light dark;--ink:#1c2430;--soft:#5b6675;--line:#d5dbe3;--page:#fff;"
    ++ codes "--card:#f5f7fa;--mark:#0b63ce}")
    ++ style_line (codes "@media(prefers-color-scheme:dark){:root{--ink:#e6eaf0;--soft:#9aa6b5;--line:#39424f;"
    ++ codes "--page:#14181e;--card:#1d232b;--mark:#7db5ff}}")
    ++ style_line (codes "*{box-sizing:border-box}")
    ++ style_line (codes "body{margin:0 auto;padding:1.5rem 1rem 4rem;max-width:70rem;background:var(--page);"
    ++ codes "color:var(--ink);font:1rem/1.5 system-ui,sans-serif;overflow-wrap:anywhere}")
    ++ style_line (codes "h1{font-size:1.7rem;margin:0 0 1rem}")
    ++ style_line (codes "h2{font-size:1.25rem;margin:2.2rem 0 .6rem;padding-top:.9rem;"
    ++ codes "border-top:1px solid var(--line)}")
    ++ style_line (codes "h3{font-size:1rem;margin:1.1rem 0 .3rem;font-weight:600}")
    ++ style_line (codes "code,pre,li,svg text{font-family:ui-monospace,\"DejaVu Sans Mono\",monospace}")
    ++ style_line (codes "h3 code,summary code{margin-left:.6rem;color:var(--soft);font-size:.8rem;font-weight:400}")
    ++ style_line (codes "pre{margin:.3rem 0 .8rem;padding:.7rem .9rem;overflow-x:auto;background:var(--card);"
    ++ codes "border:1px solid var(--line);border-radius:.4rem;font-size:.85rem;line-height:1.45}")
    ++ style_line (codes "table{border-collapse:collapse}")
    ++ style_line (codes "td{padding:.2rem 1.2rem .2rem 0;border-bottom:1px solid var(--line)}")
    ++ style_line (codes "td:first-child{font-weight:600}")
    ++ style_line (codes "td:nth-child(n+2){color:var(--soft)}")
    ++ style_line (codes "td:nth-child(4){color:var(--mark)}")
    ++ style_line (codes "td:nth-child(2){min-width:5rem}")
    ++ style_line (codes "td:nth-child(n+3){overflow-wrap:normal}")
    ++ style_line (codes "ul{margin:.3rem 0;padding:0;list-style:none}")
    ++ style_line (codes "li{padding:.15rem 0;font-size:.85rem}")
    ++ style_line (codes "summary{cursor:pointer;color:var(--mark);font-size:.9rem;padding:.15rem 0}")
    ++ style_line (codes ".p{overflow-x:auto;margin:.5rem 0}")
    ++ style_line (codes "svg{display:block;max-width:none}")
    ++ style_line (codes "svg rect{fill:var(--card);stroke:var(--line);rx:6}")
    ++ style_line (codes "svg text{font-size:14px;fill:var(--ink)}")
    ++ style_line (codes "svg .t{font-weight:700}")
    ++ style_line (codes "svg .k{text-decoration:underline}")
    ++ style_line (codes "svg .o{text-decoration:underline dashed}")
    ++ style_line (codes "svg path{fill:none;stroke:var(--mark);stroke-width:1.5}")
    ++ style_line (codes "svg circle{fill:var(--mark)}")
    ++ style_line (codes "@media print{pre{white-space:pre-wrap}}")
