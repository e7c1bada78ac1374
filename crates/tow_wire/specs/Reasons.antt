-- The reason of each status.
use Rattle.std.specs.Prelude.{ℕ, ◌==◌, List, [], ◌∷◌, codes, find, option_map, unwrap_or}

-- the statuses that have a reason
abbrev pub reasons : List (ℕ × List ℕ)
reasons =
    (200, codes "OK") ∷ (201, codes "Created") ∷ (202, codes "Accepted")
    ∷ (203, codes "Non-Authoritative Information") ∷ (204, codes "No Content") ∷ (206, codes "Partial Content")
    ∷ (300, codes "Multiple Choices") ∷ (301, codes "Moved Permanently") ∷ (302, codes "Found")
    ∷ (303, codes "See Other") ∷ (304, codes "Not Modified") ∷ (307, codes "Temporary Redirect")
    ∷ (308, codes "Permanent Redirect") ∷ (400, codes "Bad Request") ∷ (401, codes "Unauthorized")
    ∷ (402, codes "Payment Required") ∷ (403, codes "Forbidden") ∷ (404, codes "Not Found")
    ∷ (405, codes "Method Not Allowed") ∷ (406, codes "Not Acceptable") ∷ (408, codes "Request Timeout")
    ∷ (409, codes "Conflict") ∷ (410, codes "Gone") ∷ (411, codes "Length Required")
    ∷ (412, codes "Precondition Failed") ∷ (413, codes "Content Too Large") ∷ (414, codes "URI Too Long")
    ∷ (415, codes "Unsupported Media Type") ∷ (416, codes "Range Not Satisfiable")
    ∷ (417, codes "Expectation Failed") ∷ (422, codes "Unprocessable Content") ∷ (426, codes "Upgrade Required")
    ∷ (500, codes "Internal Server Error") ∷ (501, codes "Not Implemented") ∷ (502, codes "Bad Gateway")
    ∷ (503, codes "Service Unavailable") ∷ (504, codes "Gateway Timeout")
    ∷ (505, codes "HTTP Version Not Supported") ∷ []

-- its reason, empty for any other status
abbrev pub reason_of : ℕ → List ℕ
reason_of status = unwrap_or (option_map (λ r. r.1) (find (λ r. r.0 == status) reasons)) []
