-- `Bytes`: the library's bytes of a word are `bytes_of`.
mod Bytes
