-- The lines in which the program tells what a folder answered.
use Rattle.std.specs.Prelude.{[], ◌++◌, codes, decimal, flat_map, take, if◌then◌else◌}
use Rattle.percent_encoding.specs.Percent.{percent_encode}
use Rattle.percent_encoding.specs.declared.ascii_set.TheConstants.{NON_ALPHANUMERIC}
use Rattle.tow_folder.specs.declared.answers.Listed.{Listed}
use Rattle.tow_folder.specs.declared.answers.Listed.TheVariants as listed
use Rattle.tow_folder.specs.declared.answers.Look.{Look}
use Rattle.tow_folder.specs.declared.answers.Look.TheVariants as look
use Rattle.tow_folder.specs.declared.answers.Name.{Name}
use Rattle.tow_folder.specs.declared.answers.Part.{Part}
use Rattle.tow_folder.specs.declared.answers.Part.TheVariants as part
use Rattle.tow_model.specs.Texts.{Text}

-- a file's length and second, or a word
abbrev pub look_line : Look → Text
look_line (look.File len second) = codes "file " ++ decimal len ++ codes " " ++ decimal second
look_line look.Directory = codes "directory"
look_line look.Absent = codes "absent"
look_line look.Failed = codes "failed"

-- the bytes that were read, which stand at the front of a buffer
abbrev pub part_line : Part → Text → Text
part_line (part.Got n) buffer = codes "got " ++ percent_encode NON_ALPHANUMERIC (take n buffer)
part_line part.Failed buffer = codes "failed"

-- a name after a blank, and a `/` after that of a directory
abbrev pub name_part : Name → Text
name_part name = codes " " ++ percent_encode NON_ALPHANUMERIC name.text ++ (if name.directory then codes "/" else [])

-- nothing is told without memory
abbrev pub names_line : Listed → Text
names_line (listed.Names names) = codes "names" ++ flat_map name_part names
names_line listed.Failed = codes "failed"
names_line listed.NoMemory = []
