-- What the program's three files say.
pub mod Files
-- What the program prints.
pub mod Text
