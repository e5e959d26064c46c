-- What map asks of its arguments before anything is written.
pub mod Verify
