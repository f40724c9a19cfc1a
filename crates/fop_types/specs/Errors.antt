-- The errors of POSIX.1-2017 that a call may answer: their names there, and their numbers in Linux.
use Rattle.std.specs.Prelude.{ℕ, List, codes}
use Rattle.fop_types.specs.declared.answers.AppError.{AppError}
use Rattle.fop_types.specs.declared.answers.AppError.TheVariants.{Enoent, Ebadf, Ebusy, Eexist, Enotdir, Eisdir, Einval, Efbig, Enametoolong, Enotempty, Enodata, Eopnotsupp}

-- the number, as Linux has it
abbrev pub number_of : AppError → ℕ
number_of Enoent = 2
number_of Ebadf = 9
number_of Ebusy = 16
number_of Eexist = 17
number_of Enotdir = 20
number_of Eisdir = 21
number_of Einval = 22
number_of Efbig = 27
number_of Enametoolong = 36
number_of Enotempty = 39
number_of Enodata = 61
number_of Eopnotsupp = 95

-- the name, as POSIX has it
abbrev pub name_of : AppError → List ℕ
name_of Enoent = codes "ENOENT"
name_of Ebadf = codes "EBADF"
name_of Ebusy = codes "EBUSY"
name_of Eexist = codes "EEXIST"
name_of Enotdir = codes "ENOTDIR"
name_of Eisdir = codes "EISDIR"
name_of Einval = codes "EINVAL"
name_of Efbig = codes "EFBIG"
name_of Enametoolong = codes "ENAMETOOLONG"
name_of Enotempty = codes "ENOTEMPTY"
name_of Enodata = codes "ENODATA"
name_of Eopnotsupp = codes "EOPNOTSUPP"
