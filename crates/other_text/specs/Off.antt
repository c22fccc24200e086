-- The OFF grammar: the lists that the lines give, or the first line outside it with its reason.
use Rattle.std.specs.Prelude.{ℕ, ◌+◌, ◌-◌, ◌==◌, ◌&&◌, if◌then◌else◌, List, [], ◌∷◌, ◌++◌, length, None, Result, Ok, Err, codes}
use Rattle.std.specs.Str.{bytes_eq}
use Rattle.line_text.specs.declared.fault.TextWhy.{TextWhy}
use Rattle.line_text.specs.declared.fault.TextWhy.TheVariants.{Short, Long, Unknown}
use Rattle.line_text.specs.declared.fault.TextFault.{TextFault}
use Rattle.line_text.specs.Faults.{◌>>=◌}
use Rattle.line_text.specs.Texts.{numbered_lines}
use Rattle.obj_text.specs.Obj.{Lists, fan}
use Rattle.other_text.specs.declared.off_parser.LineKind.{LineKind}
use Rattle.other_text.specs.declared.off_parser.LineKind.TheVariants.{Name, Counts, Rows}
use Rattle.other_text.specs.Lines.{lines_add}
use Rattle.other_text.specs.Rows.{count_of, point_of, face_of}

-- what the next line with words has to be, how many rows are left once the
-- counts were read, and the lists so far
pub record Progress : Type 0 where
  pub wanted : LineKind
  pub points_left : ℕ
  pub faces_left : ℕ
  pub lists : Lists

-- at the start of a text
abbrev pub start : Progress
start = record {
  wanted = Name;
  points_left = 0;
  faces_left = 0;
  lists = record { points = []; faces = [] };
}

-- ---- a line of these words, of which there is one or more

-- the one word OFF
unfoldable pub name_of : List (List ℕ) → Result (Unit {0}) TextWhy
name_of [] = Err Unknown
name_of (word ∷ []) = if bytes_eq word (codes "OFF") then Ok tt else Err Unknown
name_of (word ∷ other ∷ others) = Err Unknown

-- how many vertices and how many faces; what follows is not read
unfoldable pub counts_of : List (List ℕ) → Result (ℕ × ℕ) TextWhy
counts_of [] = Err Short
counts_of (v ∷ []) = Err Short
counts_of (v ∷ f ∷ others) = do
  v ← count_of v
  f ← count_of f
  Ok (v, f)

-- a row of a vertex, or of a face when there are no more vertices
unfoldable pub row_adds : ℕ → Progress → List (List ℕ) → Result Progress TextWhy
row_adds decimals p words =
    if p.points_left == 0 then (
    if p.faces_left == 0 then Err Long
    else face_of None words
    >>= λ corners.
    Ok (record {
      wanted = p.wanted;
      points_left = p.points_left;
      faces_left = p.faces_left - 1;
      lists = record { points = p.lists.points; faces = p.lists.faces ++ fan corners };
    })
    )
    else point_of decimals words
    >>= λ point.
    Ok (record {
      wanted = p.wanted;
      points_left = p.points_left - 1;
      faces_left = p.faces_left;
      lists = record { points = p.lists.points ++ point ∷ []; faces = p.lists.faces };
    })

-- by what is wanted
unfoldable pub wanted_adds : LineKind → ℕ → Progress → List (List ℕ) → Result Progress TextWhy
wanted_adds Name decimals p words =
    name_of words
    >>= λ _.
    Ok (record {
      wanted = Counts;
      points_left = p.points_left;
      faces_left = p.faces_left;
      lists = p.lists;
    })
wanted_adds Counts decimals p words =
    counts_of words >>= λ counts.
    Ok (record { wanted = Rows; points_left = counts.0; faces_left = counts.1; lists = p.lists })
wanted_adds Rows decimals p words = row_adds decimals p words

-- ---- lines

-- a line without words changes nothing
unfoldable pub words_add : ℕ → Progress → List (List ℕ) → Result Progress TextWhy
words_add decimals p [] = Ok p
words_add decimals p (word ∷ words) = wanted_adds p.wanted decimals p (word ∷ words)

-- the lists at the end of the text, whose last row must have been read; else Short at this line
abbrev pub lists_by : LineKind → Progress → ℕ → Result Lists TextFault
lists_by Name p line = Err (record { line = line; why = Short })
lists_by Counts p line = Err (record { line = line; why = Short })
lists_by Rows p line =
    if (p.points_left == 0) && (p.faces_left == 0) then Ok p.lists
    else Err (record { line = line; why = Short })

-- at the end of a text of so many lines
unfoldable pub end_gives : ℕ → Progress → Result Lists TextFault
end_gives count p = lists_by p.wanted p (count + 1)

-- the lists that an OFF text gives on a grid of so many decimals
unfoldable pub lists_of : ℕ → List ℕ → Result Lists TextFault
lists_of decimals bytes =
    lines_add (words_add decimals) start (numbered_lines 1 bytes)
    >>= end_gives (length (numbered_lines 1 bytes))
