-- What the tests of answers with a file know of the file.
use Rattle.std.proofs.Common.{◌≡◌, ℕ, List, Option, IfSome, codes, refl, true, sym, ◌∙◌, subst, length, arith}
use Rattle.std.specs.Option.{ForSome}
use Rattle.std.specs.Str.{is_utf8, chars}
use lib.Utf8.{encode}
use Rattle.tow_folder.specs.declared.answers.Look.TheVariants as look
use Rattle.tow_folder.specs.Folders.{Looks, is_askable}
use Rattle.tow_folder.proofs.Lengths.{look_length}
use Rattle.tow_model.specs.declared.answer.Answer.{Answer}
use Rattle.tow_model.specs.declared.record.Choice.{Choice}
use Rattle.tow_model.specs.declared.record.Choice.TheVariants.{File}
use Rattle.tow_model.specs.declared.request.Request.{Request}
use Rattle.tow_model.specs.Texts.{Text}
use Rattle.tow_semantics.specs.Files.{Files}
use Rattle.tow_semantics.specs.Sites.{file_bytes}
use Rattle.tow_sending.specs.declared.sent.Sent.{Sent}
use Rattle.tow_sending.specs.Pieces.{Piece, HasFile, HasParts, left_after, pieces_of}
use Rattle.tow_sending.proofs.Texts.{parts_are_there, parts_stay}

pub path_is_askable : is_askable (codes "/f") ≡ true
unfolding is_utf8 chars encode
path_is_askable = refl

-- A file that was looked at has all the pieces of an answer that names it with its length.
pub all_is_there : (old new : Option Files) (path : Text) (len second : ℕ) (q : Request) (a : Answer) (pieces : List Piece)
    → new ≡ old → IfSome old (λ files. Looks files path (look.File len second)) → a.choice ≡ File path len → pieces ≡ pieces_of q a
    → ForSome new (λ files. HasParts files pieces)
all_is_there old new path len second q a pieces same looks choice are = λ files is.
    let found = subst (λ (told : Option Files). IfSome told (λ files. Looks files path (look.File len second))) (sym same ∙ is) looks in
    let long : len ≡ length (file_bytes files path) = look_length files path len second found in
    let fits : HasFile files (File path len) = omega (arith, long) in
    let has : HasFile files a.choice = subst (λ (c : Choice). HasFile files c) (sym choice) fits in
    subst (λ (ps : List Piece). HasParts files ps) (sym are) (parts_are_there files q a has)

-- After a call the file still has all the pieces that are left.
pub rest_is_there : (old new : Option Files) (tells : Sent) (pieces left : List Piece) → new ≡ old → left ≡ left_after tells pieces
    → ForSome old (λ files. HasParts files pieces) → ForSome new (λ files. HasParts files left)
rest_is_there old new tells pieces left same after has = λ files is.
    subst (λ (ps : List Piece). HasParts files ps) (sym after) (parts_stay files tells pieces (has files (sym same ∙ is)))
