-- The status and the line of a refusal.
use Rattle.std.specs.Prelude.{ℕ, ◌==◌, List, [], ◌∷◌, ◌++◌, codes, find, option_map, unwrap_or, slice_get, Option}
use Rattle.std.specs.Fmt.{decimal}
use Rattle.fq_core.specs.Code.{name_of_code}
use Rattle.fq_core.specs.declared.refusal.Place.{Place}
use Rattle.fq_core.specs.declared.refusal.Place.TheVariants as place
use Rattle.fq_core.specs.declared.refusal.Refusal.{Refusal}
use Rattle.command.specs.declared.status.Status.{Status}
use Rattle.command.specs.declared.status.Status.TheVariants as status
use Rattle.command.specs.Said.{Said, refused}

-- each code of the table of codes with the status that it ends in
abbrev pub status_rows : List (ℕ × Status)
status_rows = (2, status.Usage)
    ∷ (7, status.ReadFault)
    ∷ (10, status.SourceRefused)
    ∷ (11, status.SourceRefused)
    ∷ (12, status.SourceRefused)
    ∷ (13, status.SourceRefused)
    ∷ (14, status.SourceRefused)
    ∷ (15, status.Limit)
    ∷ (16, status.Limit)
    ∷ (20, status.SourceRefused)
    ∷ (21, status.SourceRefused)
    ∷ (22, status.Limit)
    ∷ (29, status.SourceRefused)
    ∷ (30, status.SourceRefused)
    ∷ (31, status.SourceRefused)
    ∷ (32, status.SourceRefused)
    ∷ (33, status.SourceRefused)
    ∷ (34, status.Limit)
    ∷ (35, status.SourceRefused)
    ∷ (36, status.SourceRefused)
    ∷ (37, status.Limit)
    ∷ (38, status.SourceRefused)
    ∷ (39, status.SourceRefused)
    ∷ (41, status.Limit)
    ∷ (50, status.InputRefused)
    ∷ (51, status.InputRefused)
    ∷ (52, status.InputRefused)
    ∷ (53, status.Limit)
    ∷ (54, status.Limit)
    ∷ (55, status.InputRefused)
    ∷ (56, status.InputRefused)
    ∷ (60, status.QueryRefused)
    ∷ (61, status.QueryRefused)
    ∷ (62, status.QueryRefused)
    ∷ (63, status.Limit)
    ∷ (64, status.QueryRefused)
    ∷ (65, status.QueryRefused)
    ∷ (66, status.QueryRefused)
    ∷ (67, status.Limit)
    ∷ (70, status.QueryRefused)
    ∷ (71, status.Limit)
    ∷ (72, status.QueryRefused)
    ∷ (73, status.Limit)
    ∷ (74, status.QueryRefused)
    ∷ (80, status.Limit)
    ∷ (81, status.Limit)
    ∷ (82, status.Limit)
    ∷ (90, status.CertificateRejected)
    ∷ (91, status.CertificateRejected)
    ∷ (92, status.CertificateRejected)
    ∷ (93, status.CertificateRejected)
    ∷ []

-- the status that a code ends in, by its row
abbrev pub status_of : ℕ → Option Status
status_of code = option_map (λ row. row.1) (find (λ row. row.0 == code) status_rows)

-- a place, after a space, where the sources have these names
abbrev pub place_text : List (List ℕ) → Place → List ℕ
place_text sources place.Nowhere = []
place_text sources (place.Source file number) = 32 ∷ (unwrap_or (slice_get sources file) [] ++ codes ":" ++ decimal number)
place_text sources (place.Query column) = codes " query:" ++ decimal column
place_text sources place.QueryWhole = codes " query"
place_text sources (place.InputNumber number) = codes " input " ++ decimal number
place_text sources (place.Limit number) = codes " limit " ++ decimal number
place_text sources (place.FileName name) = 32 ∷ name
place_text sources (place.Line number) = codes " line " ++ decimal number

-- `error`, the code, its name and the place
abbrev pub line_of : List (List ℕ) → Refusal → List ℕ
line_of sources refusal =
    codes "error " ++ decimal refusal.code ++ codes " " ++ name_of_code refusal.code ++ place_text sources refusal.place ++ 10 ∷ []

-- what a refusal says, where the sources have these names
unfoldable pub said_by : List (List ℕ) → Refusal → Said
said_by sources refusal = refused (status_of refusal.code) (line_of sources refusal)
